-- Every valid record of a class is given by some accepted payload: that of a programme whose first object is of this class, with one block.
use Rattle.std.specs.Prelude.{◌≡◌, refl, true, List, ◌∷◌, ℕ, ◌-◌, ◌*◌, ◌/◌, ◌≤◌, length, replicate}
use Rattle.std.proofs.Common.{arith, length-take-le}
use Rattle.bits.specs.Bytes.{length-to_bytes}
use Rattle.oamd.specs.declared.Programme.{Programme}
use Rattle.oamd.specs.declared.Timing.{Timing}
use Rattle.oamd.specs.Tables.{most_bytes, most_beds, most_blocks}
use Rattle.oamd.specs.Programme.{no_bed, labels, bed_objects, all_beds, named, agrees, shares, class_of}
use Rattle.oamd.specs.Timing.{no_update}
use Rattle.oamd.specs.Trim.{no_trim}
use Rattle.oamd.specs.Record.{Record}
use Rattle.oamd.specs.Payload.{Tables}
use Rattle.form.specs.Valid.{between_if, bed_valid, entries_valid, programme_valid, offset_in_samples, update_valid, timing_valid, record_valid, Valid}
use Rattle.form.specs.Form.{has_object, has_extended, has_trim, form_bits, form}
use Rattle.form.specs.Lemmas.Tests.{by_eq}
use Rattle.form.specs.Lemmas.Facts.{programme-facts, beds_le}
use Rattle.form.specs.Lemmas.Facts.{timing-facts}
use Rattle.roundtrip.specs.Lemmas.TimingBack.{sent_long}
use Rattle.roundtrip.specs.Lemmas.TrimBack.{trim-facts}
use Rattle.roundtrip.specs.Lemmas.AcceptedRecords.{no-bad}
use Rattle.roundtrip.specs.Lemmas.AcceptedTrim.{no-trim_valid}
use Rattle.roundtrip.specs.Lemmas.Lengths.{Short, also, bits-short, if-sent, at_most, header-short, object-element-short, extended-element-short, trim-element-short, element-short}
use Rattle.roundtrip.specs.Given.{form-gives, idle_records, all-idle, idle-count}
use Rattle.roundtrip.specs.Promises.{RecordGivenBy}

-- the form of up to 323 records, with any trim element, is always short enough
pub few-fit : (t : Tables) → Valid t → length t.records ≤ 323 → length (form t) ≤ most_bytes
unfolding form form_bits
few-fit t v few =
    let pf = programme-facts t.programme v.programme in
    let tf = timing-facts t.timing v.timing in
    let xf = trim-facts t.programme.objects t.trim v.trim in
    let nine = pf.nine in
    let objects = (pf.objects.on refl).1 in
    let configs = xf.nine in
    let flags = xf.flags in
    let blocks = tf.blocks in
    let a = length-take-le t.programme.bedcount t.programme.beds (beds_le t.programme pf) in
    let b = beds_le t.programme pf in
    let c = sent_long t.timing tf in
    let all : Short (form_bits t) 32768 =
    at_most 32768 (also (header-short t.programme) (also (bits-short 4 _) (also (if-sent (has_object t) (element-short 1 _ _ (object-element-short t)))
    (also (if-sent (has_extended t.records) (element-short 5 _ _ (extended-element-short t.records)))
    (if-sent (has_trim t.trim) (element-short 2 _ _ (trim-element-short t.trim))))))) (omega arith) in
    let n = length-to_bytes (form_bits t) in
    let m = all.most in
    omega arith

-- ---- a programme for each class

-- without beds
abbrev pub bedless : ℕ → ℕ → ℕ → ℕ → Programme
bedless objects dynonly lfe content = record {
  objects = objects;
  dynonly = dynonly;
  lfe = lfe;
  content = content;
  distribute = 0;
  multiple = 0;
  instances = 0;
  bedcount = 0;
  isf = 0;
  dynamics = 0;
  beds = replicate most_beds no_bed;
}

abbrev one_block : Timing
one_block = record { blocks = 1; updates = replicate most_blocks no_update }

-- a programme, valid, whose first object is of a class
record Fit (class : ℕ) : Type 0 where
  programme : Programme
  valid : programme_valid programme ≡ true
  few : programme.objects ≤ 4
  some : 1 ≤ programme.objects
  first : class_of (shares programme) (0 / 1) ≡ class

fit : (class : ℕ) → class ≤ 2 → Fit class
unfolding programme_valid entries_valid bed_valid agrees named all_beds bed_objects labels shares class_of between_if
fit class h = by_eq class 0
    (λ e. rw e (record { programme = bedless 1 1 1 0; valid = refl; few = omega arith; some = omega arith; first = refl }))
    (λ m. by_eq class 1
    (λ e. rw e (record { programme = bedless 4 0 0 2; valid = refl; few = omega arith; some = omega arith; first = refl }))
    (λ n.
    let e : class ≡ 2 = omega arith in
    rw e (record { programme = bedless 1 1 0 0; valid = refl; few = omega arith; some = omega arith; first = refl })))

one-block-valid : timing_valid one_block ≡ true
unfolding timing_valid offset_in_samples entries_valid update_valid between_if
one-block-valid = refl

-- ---- the statement

pub record-given : (class : ℕ) (r : Record) → class ≤ 2 → record_valid class r ≡ true → RecordGivenBy r
record-given class r low good =
    let f = fit class low in
    let p : Programme = f.programme in
    let few = f.few in
    let some = f.some in
    let others : List Record = idle_records (shares p) 1 1 (p.objects - 1) in
    let n : length (r ∷ others) ≡ p.objects * 1 = (let c = idle-count (shares p) 1 1 (p.objects - 1) in omega arith) in
    let g : record_valid (class_of (shares p) (0 / 1)) r ≡ true = rw f.first good in
    let b = no-bad (shares p) 1 0 (r ∷ others) (g, all-idle (shares p) 1 1 (p.objects - 1)) in
    let t : Tables = record { programme = p; timing = one_block; records = r ∷ others; trim = no_trim p.objects } in
    let v : Valid t = record { programme = f.valid; timing = one-block-valid; count = n; records = omega arith; trim = no-trim_valid p.objects } in
    form-gives _ t v (few-fit t v (omega arith)) (others, refl)
