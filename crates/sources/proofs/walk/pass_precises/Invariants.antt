use Rattle.bits.specs.Language.{bit}
use Rattle.oamd.specs.Extended.{ext_prec_pos_block}
use Rattle.sources.specs.Walks.{carries_at}
use Rattle.sources.proofs.Passing.{Passing}
use Rattle.sources.proofs.walk.pass_precises.Given as goal

abbrev pub invariant-loop-i : goal.invariant-loop-i
invariant-loop-i t =
    Passing t.n (λ i. ext_prec_pos_block (carries_at t.records i)) (bit t.s) t.initial.cur t.l t.i t.cur
