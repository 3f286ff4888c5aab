use Rattle.std.proofs.Common.{arith, mul-le-mul_left, ◌*◌, ◌≤◌}
use Rattle.form.specs.Form.{object_element_bits}
use Rattle.laying.proofs.Laws.{laid-bind, laid_is, laid-within}
use Rattle.oamd.specs.Tables.{most_blocks}
use Rattle.writer.specs.Most.{most_object}
use Rattle.writer.proofs.Surveys.{as-objects}
use Rattle.writer.proofs.objects.put_object_fields.Goals as goal
use Rattle.writer.proofs.objects.put_object_fields.Goals.{Start}

-- no more blocks than there can be
few : (c : Start) → let a = c.args in a.programme.objects * a.timing.blocks ≤ a.programme.objects * most_blocks
few c = mul-le-mul_left c.args.programme.objects c.requires.blocks.few

pub returns : goal.returns
unfolding object_element_bits
returns c =
    let a = c.args in
    let objects =
    laid_is {k = most_object * a.programme.objects} (as-objects a.records.now a.programme.objects a.timing.blocks c.record_count-count.ensures.0)
    (laid-within (omega (arith, few (goal.at.returns c).Start, c.record_count-count.ensures.0)) c.put_blocks.ensures) in
    laid-bind c.put_timing-next.ensures (laid-bind c.put-next.ensures objects)
