use Rattle.bits.specs.Language.{bit}
use Rattle.reader.specs.Steps.{lent}
use Rattle.reader.proofs.ElementLoop.{Ongoing}
use Rattle.reader.proofs.element.read_elements.Given as goal

abbrev pub invariant-loop-i : goal.invariant-loop-i
invariant-loop-i t =
    Ongoing t.n t.scope t.initial.state (bit t.s) t.initial.cur t.l (lent t.initial.out t.initial.table) t.i t.state t.cur (lent t.out t.table)
