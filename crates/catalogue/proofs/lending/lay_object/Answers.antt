use Rattle.std.proofs.Common.{arith, refl}
use native.Mathlib.Nat.{sub-zero}
use Rattle.text.proofs.LayLaws.{rest_start, rest_step, rest_end}
use Rattle.text.proofs.LineLaws.{count_more, count_none}
use Rattle.catalogue.specs.BackCalls.{object_of}
use Rattle.catalogue.proofs.BackLending.{record-laid}
use Rattle.catalogue.proofs.lending.lay_object.Goals as goal

pub loop-blk-init : goal.loop-blk-init
unfolding object_of
loop-blk-init c =
    (omega arith, rest_start (simp sub-zero) (omega arith) (omega arith))

pub loop-blk-preserved : goal.loop-blk-preserved
loop-blk-preserved c =
    let a = c.args in (
      omega arith,
      rest_step _ _ (count_more _ _ c.loop-blk.blk (omega arith)) c.loop-blk.invariant.1
          (record-laid a.p _ _ _ _ _ refl (omega (arith, c.raw.ensures, c.time_of-time.ensures)) c.lay_bytes-to.ensures c.lay_least-to.ensures),
    )

pub returns : goal.returns
returns c =
    let h = c.loop-blk in rest_end (count_none _ _ h.blk (omega arith)) h.invariant.1
