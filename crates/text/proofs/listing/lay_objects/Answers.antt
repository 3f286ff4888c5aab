use Rattle.std.proofs.Common.{arith}
use native.Mathlib.Nat.{sub-zero}
use Rattle.text.specs.Listing.{object_lines, record_lines}
use Rattle.text.proofs.LayLaws.{rest_start, rest_step, rest_end}
use Rattle.text.proofs.LineLaws.{count_more, count_none}
use Rattle.text.proofs.listing.lay_objects.Goals as goal

pub loop-object-init : goal.loop-object-init
unfolding record_lines
loop-object-init c =
    (omega arith, rest_start (simp sub-zero) (omega arith) (omega arith))

pub loop-object-preserved : goal.loop-object-preserved
loop-object-preserved c =
    let a = c.args in (
      omega arith,
      rest_step _ _ (count_more (object_lines a.blocks a.records.now) a.objects c.loop-object.object (omega arith)) c.loop-object.invariant.1 c.lay_object-to.ensures,
    )

pub returns : goal.returns
returns c =
    let h = c.loop-object in rest_end (count_none _ _ h.object (omega arith)) h.invariant.1
