use Rattle.reader.specs.Steps.{lent}
use Rattle.reader.proofs.SiftLoop.{Passing}
use Rattle.reader.proofs.sifting.sift_elements.Given as goal

abbrev pub invariant-loop-i : goal.invariant-loop-i
invariant-loop-i t =
    Passing t.s t.head t.count t.initial.scratch t.i t.state t.gone t.drops t.cur (lent t.scratch t.table)
