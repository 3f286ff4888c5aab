-- The round trip: what is written of valid tables is read back as these tables.
use Rattle.std.specs.Prelude.{◌≡◌, refl, length}
use Rattle.std.proofs.Math.Path.{sym, ap}
use Rattle.std.proofs.Common.{ap₂, ◌∙◌, subst, zero-mul, mul-zero, mul-le-mul}
use Rattle.std.proofs.Math.Bool.{false}
use mathlib.Core.List.{List, [], ◌∷◌, map}
use Rattle.std.proofs.Math.Option.{Option, none, some}
use Prim.Native.Nat.{ℕ, suc, ◌+◌, ◌*◌, ◌≤◌, ◌<◌}
use native.Mathlib.Omega.{arith}
use borrow.Author.Tests.{lt-ltb, ltb-true, ltb-false}
use Rattle.bits.specs.Language.{from, for, as_flag}
use Rattle.bits.specs.Writes.{to_bits, only, each_bits}
use Rattle.bits.specs.Back.{w-give, w-bits, w-bind, w_end, w-each, from_bytes}
use Rattle.bits.specs.Terms.{Writes}
use Rattle.oamd.specs.declared.Scene.{Scene}
use Rattle.oamd.specs.declared.Kind.TheVariants.{Object, Trim, Extended}
use Rattle.oamd.specs.Tables.{most_bytes, most_objects, most_blocks}
use Rattle.oamd.specs.Programme.{shares, class_of}
use Rattle.oamd.specs.ObjectElement.{object_data, ObjectElement, object_element}
use Rattle.oamd.specs.Extended.{Extension}
use Rattle.oamd.specs.Trim.{trim_needed}
use Rattle.oamd.specs.Record.{Record, plain_records, extended_records}
use Rattle.oamd.specs.Element.{kind, Known, nothing, scenes, fields, State, read_known, oa_element, oa_element_md, elements}
use Rattle.oamd.specs.Payload.{oa_element_count, object_audio_metadata_payload, Tables, timing, records, tables}
use Rattle.oamd.specs.Answer.{accepted, needed, housed, reading}
use Rattle.demands.specs.Assembly.{count_bits}
use Rattle.demands.specs.Lemmas.Reading.{reading_ok, housed_fits}
use Rattle.demands.specs.Lemmas.Assembled.{count-writes}
use Rattle.form.specs.Valid.{record_count, Valid}
use Rattle.form.specs.Form.{by_object, object_data_bits, object_element_bits, extended_element_bits, trim_element_bits, element_bits, any, has_object, has_extended, has_trim, form_bits, form}
use Rattle.form.specs.Lemmas.Tests.{by-test}
use Rattle.form.specs.Lemmas.Facts.{ProgrammeFacts, programme-facts}
use Rattle.roundtrip.specs.Lemmas.ProgrammeBack.{header-written}
use Rattle.form.specs.Lemmas.Facts.{TimingFacts, timing-facts}
use Rattle.roundtrip.specs.Lemmas.TimingBack.{coded_timing, sent_long, coded_long, timing-written, timing-means, no-blocks-mean}
use Rattle.roundtrip.specs.Lemmas.ObjectsBack.{ValidFrom, none-bad, coded_object, objects-write, objects-mean}
use Rattle.roundtrip.specs.Lemmas.ExtendedBack.{flag_lt, all-carried, coded_extension, extended-writes, extended-means, plain-means}
use Rattle.roundtrip.specs.Lemmas.TrimBack.{TrimFacts, trim-facts, trim-writes, carried_trim, trim-means}
use Rattle.roundtrip.specs.Lemmas.ElementBack.{element-writes}
use Rattle.roundtrip.specs.Lemmas.Lengths.{object-element-short, extended-element-short, trim-element-short}
use Rattle.roundtrip.specs.Promises.{ReadAs}

-- what is read of an object element
abbrev pub coded_element : Tables → ObjectElement
coded_element t = record { timing = coded_timing t.timing; objects = map coded_object (by_object t.timing.blocks t.programme.objects t.records) }

module _ (t : Tables) (v : Valid t) where
  p-facts : ProgrammeFacts t.programme
  p-facts = programme-facts t.programme v.programme

  t-facts : TimingFacts t.timing
  t-facts = timing-facts t.timing v.timing

  x-facts : TrimFacts t.programme.objects t.trim
  x-facts = trim-facts t.programme.objects t.trim v.trim

  all-good : ValidFrom (shares t.programme) t.timing.blocks 0 t.records
  all-good =
      let n = v.count in
      let b = v.records in
      none-bad (shares t.programme) t.timing.blocks 0 t.records (omega arith)

  from_zero : ValidFrom (shares t.programme) t.timing.blocks (0 * t.timing.blocks) t.records
  from_zero = rw (zero-mul t.timing.blocks) all-good

  -- ---- 5.5.5

  object-written : 1 ≤ t.timing.blocks → Writes (object_element t.programme.objects (shares t.programme)) (object_element_bits t) (coded_element t)
  unfolding object_element object_element_bits
  object-written one =
      let s = shares t.programme in
      let n : ℕ = t.programme.objects in
      let os : List (List Record) = by_object t.timing.blocks n t.records in
      let loop : Writes (for n (λ j. object_data t.timing.blocks (class_of s j))) (each_bits (λ j o. object_data_bits o) 0 os) (map coded_object os) =
      w-each (λ j. object_data t.timing.blocks (class_of s j)) (λ j o. object_data_bits o) coded_object (from 0 n) 0 os
      (objects-write s t.timing.blocks 0 n t.records from_zero v.count) in
      w-bind (timing-written t.timing t-facts one) (w-bind (w-bits 1 1 (omega arith)) (w-bind (w-give 0)
      (w_end (subst (λ (b : ℕ). Writes (for n (λ j. object_data b (class_of s j))) (each_bits (λ j o. object_data_bits o) 0 os) (map coded_object os))
      (sym (coded_long t.timing t-facts)) loop) (w-give _))))

  scenes_back : scenes (some (coded_element t)) ≡ map (λ r. r.scene) t.records
  unfolding scenes
  scenes_back = objects-mean (shares t.programme) t.timing.blocks 0 t.programme.objects [] t.records from_zero v.count

  -- ---- 5.5.4

  -- the elements before the trim element
  abbrev untrimmed : Option ObjectElement → Option Extension → Known
  untrimmed o x = record { object = o; trim = none; extended = x }

  abbrev plain : Known
  plain = untrimmed (some (coded_element t)) none

  abbrev whole : Known
  whole = untrimmed (some (coded_element t)) (some (coded_extension t.records))

  -- and the trim element, if there is one
  abbrev complete : Known → Known
  complete known = record { object = known.object; trim = carried_trim t.trim; extended = known.extended }

  -- what has been read, with no unknown element among it
  abbrev so_far : Known → State
  so_far known = record { known = known; unknown = 0 }

  -- far fewer bits than four size groups can count
  few-records : length t.records ≤ most_objects * most_blocks
  few-records =
      let n = v.count in
      let m : record_count t.programme t.timing ≤ most_objects * most_blocks = mul-le-mul (p-facts.objects.on refl).1 t-facts.blocks in
      omega arith

  first_fits : length (object_element_bits t) < 559231
  first_fits =
      let s = (object-element-short t).most in
      let n = few-records in
      let u = sent_long t.timing t-facts in
      let b = t-facts.blocks in
      omega arith

  second_fits : length (extended_element_bits t.records) < 559231
  second_fits =
      let s = (extended-element-short t.records).most in
      let n = few-records in
      omega arith

  third_fits : length (trim_element_bits t.trim) < 559231
  third_fits =
      let s = (trim-element-short t.trim).most in
      let c = x-facts.nine in
      let d = x-facts.flags in
      let o = (p-facts.objects.on refl).1 in
      omega arith

  first-written : 1 ≤ t.timing.blocks
      → Writes (oa_element_md t.programme 0 (so_far nothing)) (element_bits 1 (object_element_bits t)) (so_far plain)
  unfolding oa_element_md oa_element read_known fields kind
  first-written one =
      element-writes (λ k size. oa_element t.programme _ (so_far nothing) k) 1 (object_element_bits t) (so_far plain) (omega arith) first_fits
      (λ size. w-bind (w-give Object) (w-bind (w-give Object) (w_end (w_end (object-written one) (w-give _)) (w-give _))))

  second-written : Writes (oa_element_md t.programme 0 (so_far plain)) (element_bits 5 (extended_element_bits t.records)) (so_far whole)
  unfolding oa_element_md oa_element read_known fields kind
  second-written =
      let x = extended-writes t.records (all-carried (shares t.programme) t.timing.blocks 0 t.records all-good) in
      element-writes (λ k size. oa_element t.programme _ (so_far plain) k) 5 (extended_element_bits t.records) (so_far whole) (omega arith) second_fits
      (λ size. w-bind (w-give Extended) (w-bind (w-give Extended) (w_end (w_end (rw scenes_back x) (w-give _)) (w-give _))))

  -- the trim element, if there is one, behind whatever other elements
  third-written : (o : Option ObjectElement) (x : Option Extension)
      → Writes (elements t.programme 0 (as_flag (has_trim t.trim)) (so_far (untrimmed o x)))
      (only (has_trim t.trim) (element_bits 2 (trim_element_bits t.trim))) (so_far (complete (untrimmed o x)))
  unfolding elements oa_element_md oa_element read_known fields kind
  third-written o x = by-test (has_trim t.trim)
      (λ q.
      let after : State = so_far (record { object = o; trim = some t.trim; extended = x }) in
      let one : Writes (oa_element_md t.programme 0 (so_far (untrimmed o x))) (element_bits 2 (trim_element_bits t.trim)) after =
      element-writes (λ k size. oa_element t.programme _ (so_far (untrimmed o x)) k) 2 (trim_element_bits t.trim) after (omega arith) third_fits
      (λ size. w-bind (w-give Trim) (w-bind (w-give Trim)
      (w_end (w_end (trim-writes t.programme.objects t.trim x-facts q) (w-give _)) (w-give _)))) in
      rw q (w_end one (w-give after)))
      (λ q. rw q (w-give (so_far (untrimmed o x))))

  -- ---- 5.5.2

  -- the known elements of the payload, whose tables are these
  record Written : Type 0 where
    known : Known
    writes : Writes object_audio_metadata_payload (form_bits t) (record { programme = t.programme; known = known; unknown = 0 })
    same : tables t.programme known ≡ t

  -- without blocks there is no record
  no-records : has_object t ≡ false → t.records ≡ []
  no-records o =
      let b : t.timing.blocks ≡ 0 = (let z = ltb-false 0 t.timing.blocks o in omega arith) in
      let n : length t.records ≡ 0 = v.count ∙ ap (λ (k : ℕ). t.programme.objects * k) b ∙ mul-zero t.programme.objects in
      empty t.records n
    where
      empty : (rs : List Record) → length rs ≡ 0 → rs ≡ []
      empty [] h = refl
      empty (r ∷ rs) h = absurd (omega arith)

  -- a count of elements that needs no more than 4 bits
  count-written : (n : ℕ) → n < 15 → Writes oa_element_count (to_bits 4 n) n
  unfolding count_bits
  count-written n l = rw (lt-ltb n 15 l) at (count-writes n (omega arith))

  payload-written : Written
  unfolding form_bits object_audio_metadata_payload elements tables records scenes timing plain_records has_extended any
  payload-written =
      let head = header-written t.programme p-facts in
      let time = timing-means t.timing t-facts in
      let trim = trim-means t.programme.objects t.trim x-facts in
      let last : ℕ = as_flag (has_trim t.trim) in
      let few : last < 2 = flag_lt (has_trim t.trim) in
      let held = all-carried (shares t.programme) t.timing.blocks 0 t.records all-good in
      by-test (has_object t)
      (λ o.
      let some_block = ltb-true 0 t.timing.blocks o in
      let first = first-written some_block in
      by-test (has_extended t.records)
      (λ x.
      let e : 1 + 1 + last ≡ suc (suc last) = omega arith in
      record {
        known = complete whole;
        writes = rw (o, x) (w-bind head (w-bind (count-written (1 + 1 + last) (omega arith))
            (w_end (rw e (w-bind first (w-bind second-written (third-written _ _)))) (w-give _))));
        same = λ i. record {
          programme = t.programme;
          timing = time i;
          records = (ap (λ (ss : List Scene). extended_records ss (coded_extension t.records).divergence
              (coded_extension t.records).precise) scenes_back ∙ extended-means t.records) i;
          trim = trim i;
        };
      })
      (λ x.
      let e : 1 + 0 + last ≡ suc last = omega arith in
      record {
        known = complete plain;
        writes = rw (o, x) (w-bind head (w-bind (count-written (1 + 0 + last) (omega arith))
            (w_end (rw e (w-bind first (third-written _ _))) (w-give _))));
        same = λ i. record {
          programme = t.programme;
          timing = time i;
          records = (ap plain_records scenes_back ∙ plain-means t.records held x) i;
          trim = trim i;
        };
      }))
      (λ o.
      let none_left = no-records o in
      let x : has_extended t.records ≡ false = ap has_extended none_left in
      let b : t.timing.blocks ≡ 0 = (let z = ltb-false 0 t.timing.blocks o in omega arith) in
      let e : 0 + 0 + last ≡ last = omega arith in
      record {
        known = complete nothing;
        writes = rw (o, x) (w-bind head (w-bind (count-written (0 + 0 + last) (omega arith)) (w_end (rw e (third-written none none)) (w-give _))));
        same = λ i. record {
          programme = t.programme;
          timing = no-blocks-mean t.timing t-facts b i;
          records = sym none_left i;
          trim = trim i;
        };
      })

-- ---- the statements

-- the form of valid tables, whatever its length, is read as these tables
pub round_trip : (t : Tables) → Valid t → ReadAs (form t) t
unfolding form
round_trip t v =
    let w = payload-written t v in
    record {
      payload = record { programme = t.programme; known = w.known; unknown = 0 };
      end = _;
      reads = from_bytes w.writes;
      same = w.same;
      unknown = refl;
    }

-- and a read is accepted with these tables, where a payload can have that length and the buffers have the room for their records and their trim table
pub reads-back : (frame : ℕ) (t : Tables) (buffer trim : List ℕ) → Valid t → length (form t) ≤ most_bytes → needed t ≤ length buffer
    → trim_needed t.programme.objects ≤ length trim → reading frame (form t) buffer trim ≡ accepted frame buffer trim t 0
reads-back frame t buffer trim v l room trim-room =
    let r = round_trip t v in
    reading_ok frame (form t) buffer trim l r.reads ∙ ap₂ (housed frame buffer trim) r.same r.unknown ∙ housed_fits frame buffer trim t 0 room trim-room
