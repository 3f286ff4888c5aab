use Rattle.bits.specs.Language.{bit}
use Rattle.oamd.specs.Extended.{obj_div_block}
use Rattle.sources.specs.Walks.{carries_at}
use Rattle.sources.proofs.Passing.{Passing}
use Rattle.sources.proofs.walk.pass_divergences.Given as goal

abbrev pub invariant-loop-i : goal.invariant-loop-i
invariant-loop-i t =
    Passing t.n (λ i. obj_div_block (carries_at t.records i)) (bit t.s) t.initial.cur t.l t.i t.cur
