use Rattle.std.proofs.Common.{arith}
use native.Mathlib.Nat.{sub-zero}
use Rattle.text.proofs.LayLaws.{rest_start, rest_step, rest_end}
use Rattle.text.proofs.LineLaws.{count_more, count_none}
use Rattle.catalogue.specs.BackCalls.{records_of}
use Rattle.catalogue.proofs.lending.lay_records.Goals as goal

pub loop-j-init : goal.loop-j-init
unfolding records_of
loop-j-init c =
    (omega arith, rest_start (simp sub-zero) (omega arith) (omega arith))

pub loop-j-preserved : goal.loop-j-preserved
loop-j-preserved c =
    let h = c.loop-j in
    (omega arith, rest_step _ _ (count_more _ _ h.j (omega arith)) h.invariant.1 c.lay_object-to.ensures)

pub returns : goal.returns
returns c =
    let h = c.loop-j in rest_end (count_none _ _ h.j (omega arith)) h.invariant.1
