use Rattle.std.proofs.Common.{arith, ◌∙◌}
use Rattle.form.specs.Answer.{tables_of}
use Rattle.form.specs.Form.{object_element_bits}
use Rattle.writer.specs.Most.{most_object_fields}
use Rattle.writer.specs.Parts.{Inside}
use Rattle.writer.proofs.Records.{object-inside}
use Rattle.writer.proofs.Extra.{inside_of, extended_there}
use Rattle.writer.proofs.Trims.{trim_there}
use Rattle.writer.proofs.Whole.{all-bits, form-length}
use Rattle.writer.proofs.payload.measure.Goals as goal
use Rattle.writer.proofs.payload.measure.Goals.{After-plus-object}

-- the bits inside the object element
object : (c : After-plus-object) → let a = c.args in
    Inside (most_object_fields a.programme.objects) c.plus-object.result.0 (object_element_bits (tables_of a.programme a.timing a.records.now a.trim.now))
object c =
    let a = c.args in
    object-inside (tables_of a.programme a.timing a.records.now a.trim.now) c.timing_width.ensures c.requires.gathered.wide
    c.new.ensures c.plus.ensures c.plus-object.ensures (omega arith) (omega arith)

pub returns : goal.returns
returns c =
    let count = c.record_count-count.ensures in
    let a = c.args in
    let records = a.records.now in
    let few = c.requires.enough.blocks in
    let header = c.header_width.ensures in
    let needed = c.requires.gathered.needed in
    let inside = object (goal.at.returns c).After-plus-object in
    let extended = inside_of records count.0 c.extended_inside-extended.ensures in
    let trim = c.trim_inside-trims.ensures in
    let one = c.element_bits-first.ensures in
    let two = c.element_bits-second.ensures in
    let three = c.element_bits-third.ensures in
    let total =
    all-bits _ _ _ _ _ _ _ _ _ c.new-2.ensures c.plus-before.ensures c.plus-2.ensures c.plus-3.ensures c.plus-4.ensures header.most
    (omega (arith, one.most, inside.most)) (omega (arith, two.most, extended.most, count.1, few)) (omega (arith, three.most, trim.most)) in
    record {
      count = count.0;
      few = omega (arith, count.1, few);
      needed = needed;
      object = inside;
      extended = extended;
      trim = trim;
      whole =
          total.0
          ∙ form-length (tables_of a.programme a.timing records a.trim.now) _ _ (extended_there needed c.some.ensures)
          (trim_there a.programme.objects a.trim.now) header inside extended trim one two three;
      small = total.1;
    }
