use Rattle.sources.proofs.Entering.{Between}
use Rattle.sources.proofs.walk.find_element.Given as goal

abbrev pub invariant-loop-i : goal.invariant-loop-i
invariant-loop-i t =
    Between t.extended t.s t.alternate t.n t.cur t.i
