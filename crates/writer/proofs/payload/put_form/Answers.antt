use Rattle.std.proofs.Common.{List, ap, arith, ℕ, ◌≡◌, ◌∙◌}
use Rattle.bits.specs.Writes.{only}
use Rattle.form.specs.Form.{object_element_bits, extended_element_bits, element_bits}
use Rattle.record.specs.Bytes.{records_at}
use Rattle.form.specs.Answer.{tables_of}
use Rattle.laying.specs.declared.Pen.{Pen}
use Rattle.laying.specs.Laying.{reach, blank}
use Rattle.laying.proofs.Laws.{laid_is, laid-within, reach-blank}
use Rattle.writer.proofs.Extra.{extended_there}
use Rattle.writer.proofs.Trims.{trim_there}
use Rattle.writer.proofs.Whole.{form-laid}
use Rattle.writer.proofs.payload.put_form.Goals as goal

-- it begins at the first bit
begun : (s : List ℕ) {p : Pen} → p ≡ blank → reach s p ≡ 0
begun s e = ap (λ (q : Pen). reach s q) e ∙ reach-blank s

pub put_header-header-requires-clause-most_header_bound : goal.put_header-header-requires-clause-most_header_bound
put_header-header-requires-clause-most_header_bound c = omega (arith, begun c.args.out.now c.start.ensures)

pub put-count-requires-clause-w_bound : goal.put-count-requires-clause-w_bound
put-count-requires-clause-w_bound c = omega (arith, c.put_header-header.ensures.most, begun c.args.out.now c.start.ensures)

pub put_object_element-object-requires-clause-objects_bound : goal.put_object_element-object-requires-clause-objects_bound
put_object_element-object-requires-clause-objects_bound c =
    omega (arith, c.put-count.ensures.most, c.put_header-header.ensures.most, begun c.args.out.now c.start.ensures)

pub put_object_element-object-requires-clause-inside : goal.put_object_element-object-requires-clause-inside
unfolding object_element_bits
put_object_element-object-requires-clause-inside c = c.requires.measured.object

pub put_extended_element-extended-requires-clause-count_bound : goal.put_extended_element-extended-requires-clause-count_bound
put_extended_element-extended-requires-clause-count_bound c =
    omega (
      arith,
      c.put_object_element-object.ensures.most,
      c.put-count.ensures.most,
      c.put_header-header.ensures.most,
      begun c.args.out.now c.start.ensures,
      c.requires.measured.few,
    )

pub put_trim_element-requires-clause-objects_bound : goal.put_trim_element-requires-clause-objects_bound
put_trim_element-requires-clause-objects_bound c =
    omega (
      arith,
      c.put_extended_element-extended.ensures.most,
      c.put_object_element-object.ensures.most,
      c.put-count.ensures.most,
      c.put_header-header.ensures.most,
      begun c.args.out.now c.start.ensures,
      c.requires.measured.few,
    )

pub returns : goal.returns
unfolding object_element_bits
returns c =
    let a = c.args in
    let records = a.records.now in
    let m = c.requires.measured in
    let n = ap (λ (k : ℕ). only c.some-some.result (element_bits 5 (extended_element_bits (records_at records k 0)))) m.count in
    laid-within (omega (arith, m.few))
    (form-laid (tables_of a.programme a.timing records a.trim.now) _ _ (extended_there m.needed c.some-some.ensures)
    (trim_there a.programme.objects a.trim.now) c.start.ensures c.as_flag-one.ensures c.as_flag-two.ensures c.as_flag-three.ensures
    c.put_header-header.ensures c.put-count.ensures c.put_object_element-object.ensures
    (laid_is n c.put_extended_element-extended.ensures) c.put_trim_element.ensures)
