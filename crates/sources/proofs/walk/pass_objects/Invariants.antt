use Rattle.bits.specs.Language.{bit}
use Rattle.oamd.specs.Programme.{class_of}
use Rattle.oamd.specs.ObjectElement.{object_data}
use Rattle.sources.proofs.Passing.{Passing}
use Rattle.sources.proofs.walk.pass_objects.Given as goal

abbrev pub invariant-loop-j : goal.invariant-loop-j
invariant-loop-j t =
    Passing t.n (λ j. object_data t.blocks (class_of t.shares j)) (bit t.s) t.initial.cur t.l t.j t.cur
