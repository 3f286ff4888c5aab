use Rattle.bits.specs.Language.{bit}
use Rattle.oamd.specs.Block.{object_info_block}
use Rattle.sources.proofs.Passing.{Passing}
use Rattle.sources.proofs.walk.pass_blocks.Given as goal

abbrev pub invariant-loop-i : goal.invariant-loop-i
invariant-loop-i t =
    Passing t.n (object_info_block t.class) (bit t.s) t.initial.cur t.l t.i t.cur
