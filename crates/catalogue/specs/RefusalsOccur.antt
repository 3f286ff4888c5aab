-- The refusals that a catalogue takes are exactly those that a frame can have: for each of them there is a payload, or an entry, that is refused so.
use Rattle.std.specs.Prelude.{◌≡◌, refl, List, [], ◌∷◌, ◌↔◌, ◌⊎◌, ℕ, ◌≤◌, ◌<◌, length, replicate}
use Rattle.std.proofs.Common.{ap, ◌∙◌, subst, ⊎_elim, arith}
use Rattle.std.proofs.lemmas.List.{length-replicate}
use Rattle.std.proofs.Math.Seq.{take-length}
use Rattle.bits.specs.Language.{slice, run, number, each, from, bit}
use Rattle.bits.specs.Size.{size_from}
use Rattle.bits.specs.Steps.{by_order}
use Rattle.oamd.specs.Tables.{room_bytes, most_trim}
use Rattle.oamd.specs.Answer.{Outcome, missing_of, reading}
use Rattle.oamd.specs.Batch.{entry}
use Rattle.oamd.specs.Element.{kind, framed, fields, pass_over, read_known, oa_element, oa_element_md, elements}
use Rattle.oamd.specs.ObjectElement.{object_element}
use Rattle.oamd.specs.Payload.{oa_md_version, object_count, oa_element_count, header, object_audio_metadata_payload}
use Rattle.oamd.specs.Programme.{bed_assignment, bed_instances, intermediate_spatial_format, num_dynamic_objects, reserved_data, program_assignment, labels, bed_objects, all_beds, named, agrees}
use Rattle.oamd.specs.Timing.{sample_offset, block_update_info, md_update_info}
use Rattle.oamd.specs.Trim.{trim_element}
use Rattle.demands.specs.Lemmas.Reading.{reading_long}
use Rattle.demands.proofs.Lemmas.Shelves.{inside_is, outside_is}
use Rattle.roundtrip.specs.Entries.{entry-in_range}
use Rattle.catalogue.specs.Sheets.{zeros}
use Rattle.catalogue.specs.Fit.{CanBe}
use Rattle.catalogue.specs.Reads.{zeros_long}
use Rattle.catalogue.specs.ReadsFit.{can-be}
use Rattle.catalogue.specs.Values.{read_alone}

-- some entry is refused with r
pub record Refused (r : ℕ) : Type 0 where
  pub store : List ℕ
  pub start : ℕ
  pub len : ℕ
  pub some : r ≡ 0 → ⊥
  pub is : (entry 0 store start len (zeros room_bytes) (zeros most_trim)).answer.refusal ≡ r

-- a payload that is refused, as the only one of a store
alone : (s : List ℕ) (r : ℕ) → (r ≡ 0 → ⊥) → (read_alone s).answer.refusal ≡ r → Refused r
alone s r some h = record {
  store = s;
  start = 0;
  len = length s;
  some = some;
  is =
      ap (λ (o : Outcome). o.answer.refusal)
      (inside_is 0 s 0 (length s) (zeros room_bytes) (zeros most_trim) (omega arith)
      ∙ ap (λ (t : List ℕ). reading 0 t (zeros room_bytes) (zeros most_trim)) (take-length s))
      ∙ h;
}

-- One payload for each: nothing; version 1; a content description that names no object; ISF index 6; a second trim element; an extended element first; an object element of one byte.
refused-each : ((read_alone []).answer.refusal ≡ 2) × ((read_alone (0x41 ∷ 0x00 ∷ [])).answer.refusal ≡ 3) × ((read_alone (0x00 ∷ 0x00 ∷ [])).answer.refusal ≡ 4)
    × ((read_alone (0x00 ∷ 0x2C ∷ [])).answer.refusal ≡ 5) × ((read_alone (0x01 ∷ 0x08 ∷ 0x80 ∷ 0x00 ∷ 0x40 ∷ 0x00 ∷ [])).answer.refusal ≡ 6)
    × ((read_alone (0x01 ∷ 0x05 ∷ 0x40 ∷ 0x00 ∷ [])).answer.refusal ≡ 7) × ((read_alone (0x01 ∷ 0x04 ∷ 0x40 ∷ 0x00 ∷ [])).answer.refusal ≡ 8)
unfolding slice run number each from bit size_from missing_of reading kind framed fields pass_over read_known oa_element oa_element_md elements object_element oa_md_version
    object_count oa_element_count header object_audio_metadata_payload bed_assignment bed_instances intermediate_spatial_format num_dynamic_objects reserved_data
    program_assignment labels bed_objects all_beds named agrees sample_offset block_update_info md_update_info trim_element
refused-each = (refl, refl, refl, refl, refl, refl, refl)

too_long : Refused 1
too_long =
    let long = length-replicate {A = ℕ} 4097 0 in
    alone (replicate 4097 0) 1 (λ z. omega (arith, z))
    (ap (λ (o : Outcome). o.answer.refusal) (reading_long 0 (replicate 4097 0) (zeros room_bytes) (zeros most_trim) (omega arith)))

outside : Refused 12
outside = record {
  store = [];
  start = 1;
  len = 0;
  some = λ z. omega (arith, z);
  is = ap (λ (o : Outcome). o.answer.refusal) (outside_is 0 [] 1 0 (zeros room_bytes) (zeros most_trim) (omega arith));
}

-- the least first
this : (r n : ℕ) → n ≤ r → Refused n → (n < r → Refused r) → Refused r
this r n low x above = by_order r n (λ high. let is : r ≡ n = omega arith in rw is x) above

-- 1 to 8
within : (r : ℕ) → 1 ≤ r → r ≤ 8 → Refused r
within r low high =
    let e = refused-each in
    this r 1 low too_long λ l.
    this r 2 l (alone _ 2 (λ z. omega (arith, z)) e.0) λ l.
    this r 3 l (alone _ 3 (λ z. omega (arith, z)) e.1) λ l.
    this r 4 l (alone _ 4 (λ z. omega (arith, z)) e.2) λ l.
    this r 5 l (alone _ 5 (λ z. omega (arith, z)) e.3) λ l.
    this r 6 l (alone _ 6 (λ z. omega (arith, z)) e.4) λ l.
    this r 7 l (alone _ 7 (λ z. omega (arith, z)) e.5) λ l.
    this r 8 l (alone _ 8 (λ z. omega (arith, z)) e.6) λ l. absurd (omega arith)

-- Exactly 1 to 8 and 12 occur.
pub refusals_occur : (r : ℕ) → CanBe r ↔ Refused r
refusals_occur r = (
  (λ h. ⊎_elim (λ k. within r k.0 k.1) (λ k. rw k outside) h),
  (λ x.
      let e = entry-in_range 0 x.store x.start x.len (zeros room_bytes) (zeros most_trim) (omega (arith, zeros_long.0)) (omega (arith, zeros_long.1)) in
      can-be r (subst (λ (n : ℕ). (n ≤ 8) ⊎ (n ≡ 12)) x.is e.number) x.some),
)
