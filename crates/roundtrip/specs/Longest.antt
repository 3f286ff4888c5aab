-- The longest form: no valid tables need more than 14,481 bytes.
use Rattle.std.specs.Prelude.{refl, ◌*◌, ◌≤◌, length}
use Rattle.std.proofs.Common.{arith, mul-le-mul, length-take}
use Rattle.bits.specs.Bytes.{length-to_bytes}
use Rattle.oamd.specs.Payload.{Tables}
use Rattle.form.specs.Valid.{Valid}
use Rattle.form.specs.Form.{object_element_bits, extended_element_bits, trim_element_bits, size_for, header_bits, element_bits, has_object, has_extended, has_trim, form_bits, form}
use Rattle.form.specs.Lemmas.Facts.{programme-facts}
use Rattle.form.specs.Lemmas.Facts.{timing-facts}
use Rattle.roundtrip.specs.Lemmas.TrimBack.{trim-facts}
use Rattle.roundtrip.specs.Lemmas.Lengths.{Short, also, bits-short, if-sent, at_most, size-short, trim-element-short}
use Rattle.roundtrip.specs.Lemmas.LongestParts.{header-longest, object-element-longest, extended-element-longest, size-three, size-two, element-longest}

module _ (t : Tables) (v : Valid t) where
  objects-few : t.programme.objects ≤ 159
  objects-few = ((programme-facts t.programme v.programme).objects.on refl).1

  blocks-few : t.timing.blocks ≤ 8
  blocks-few = (timing-facts t.timing v.timing).blocks

  records-few : length t.records ≤ 1272
  records-few = let m : t.programme.objects * t.timing.blocks ≤ 159 * 8 = mul-le-mul objects-few blocks-few in omega (arith, v.count)

  -- version, counts, nine non-standard beds and an ISF
  header_most : Short (header_bits t.programme) 211
  header_most =
      let beds = length-take t.programme.bedcount t.programme.beds in
      let nine = (programme-facts t.programme v.programme).nine in
      at_most 211 (header-longest t.programme) (omega arith)

  -- the size takes four groups
  object_most : Short (element_bits 1 (object_element_bits t)) 90992
  object_most =
      let few = objects-few in
      let updates = length-take t.timing.blocks t.timing.updates in
      let eight = (timing-facts t.timing v.timing).eight in
      element-longest 1 (object_element_bits t) 90960 20 (at_most 90960 (object-element-longest t blocks-few) (omega arith)) (size-short _)

  -- three groups
  extended_most : Short (element_bits 5 (extended_element_bits t.records)) 24195
  unfolding size_for
  extended_most =
      let few = records-few in
      let fields : Short (extended_element_bits t.records) 24170 = at_most 24170 (extended-element-longest t.records) (omega arith) in
      let most = fields.most in
      element-longest 5 (extended_element_bits t.records) 24170 15 fields (size-three _ (omega arith))

  -- two groups
  trim_most : Short (element_bits 2 (trim_element_bits t.trim)) 446
  unfolding size_for
  trim_most =
      let few = objects-few in
      let facts = trim-facts t.programme.objects t.trim v.trim in
      let nine = facts.nine in
      let flags = facts.flags in
      let fields : Short (trim_element_bits t.trim) 427 = at_most 427 (trim-element-short t.trim) (omega arith) in
      let most = fields.most in
      element-longest 2 (trim_element_bits t.trim) 427 10 fields (size-two _ (omega arith))

  bits_most : Short (form_bits t) 115848
  unfolding form_bits
  bits_most =
      also header_most (also (bits-short 4 _) (also (if-sent (has_object t) object_most) (also (if-sent (has_extended t.records) extended_most)
      (if-sent (has_trim t.trim) trim_most))))

pub longest : (t : Tables) → Valid t → length (form t) ≤ 14481
unfolding form
longest t v =
    let most = (bits_most t v).most in
    let bytes = length-to_bytes (form_bits t) in
    omega arith
