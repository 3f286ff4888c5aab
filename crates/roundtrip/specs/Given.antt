-- Every valid programme and timing are given by some accepted payload: that of the same programme and timing with no object active in any block
-- and no trim element, which is always short enough.
use Rattle.std.specs.Prelude.{◌≡◌, refl, true, false, ℕ, zero, suc, ◌*◌, ◌/◌, ◌≤◌, length}
use Rattle.std.proofs.Common.{sym, ap, subst, eq-eqb}
use mathlib.Core.List.{List, [], ◌∷◌}
use native.Mathlib.Omega.{arith}
use Rattle.std.proofs.Math.Nat.{mul-le-mul}
use Rattle.std.proofs.Math.Seq.{length-take-le}
use Rattle.bits.specs.Bytes.{length-to_bytes}
use Rattle.bits.specs.Terms.{Every}
use Rattle.oamd.specs.declared.Programme.{Programme}
use Rattle.oamd.specs.declared.Timing.{Timing}
use Rattle.oamd.specs.declared.Shares.{Shares}
use Rattle.oamd.specs.Tables.{most_bytes, most_objects, most_blocks}
use Rattle.oamd.specs.Programme.{shares, class_of}
use Rattle.oamd.specs.Extended.{no_divergence, no_precise}
use Rattle.oamd.specs.Trim.{no_trim}
use Rattle.oamd.specs.Meaning.{idle}
use Rattle.oamd.specs.Record.{Record, record_of}
use Rattle.oamd.specs.Payload.{Tables}
use Rattle.form.specs.Valid.{between_if, location_valid, volume_valid, zone_valid, screen_valid, scene_valid, divergence_valid, precise_valid, record_valid, programme_valid, timing_valid, record_count, Valid}
use Rattle.form.specs.Form.{status_bits, block_bits, object_element_bits, any, has_object, has_extended, form_bits, form}
use Rattle.form.specs.Lemmas.Tests.{whole}
use Rattle.form.specs.Lemmas.Facts.{programme-facts, beds_le}
use Rattle.form.specs.Lemmas.Facts.{timing-facts}
use Rattle.roundtrip.specs.Lemmas.TimingBack.{sent_long}
use Rattle.roundtrip.specs.Lemmas.ObjectsBack.{ValidFrom}
use Rattle.roundtrip.specs.Lemmas.AcceptedRecords.{no-bad}
use Rattle.roundtrip.specs.Lemmas.AcceptedTrim.{no-trim_valid}
use Rattle.roundtrip.specs.Lemmas.Lengths.{Short, also, bits-short, if-sent, at_most, header-short, timing-short, Small, objects-short, element-short}
use Rattle.roundtrip.specs.RoundTrip.{round_trip}
use Rattle.roundtrip.specs.Promises.{GivenBy}

-- valid tables whose form is short enough are given by it
pub form-gives : (Q : Tables → Type 0) (t : Tables) → Valid t → length (form t) ≤ most_bytes → Q t → GivenBy Q
form-gives Q t v l q =
    let r = round_trip t v in
    record { bytes = form t; short = l; payload = r.payload; end = r.end; reads = r.reads; gives = subst Q (sym r.same) q }

-- ---- tables with no object active

-- n records of an inactive object, whose indices count from i
unfoldable pub idle_records : Shares → ℕ → ℕ → ℕ → List Record
idle_records s blocks i zero = []
idle_records s blocks i (suc n) = record_of (idle (class_of s (i / blocks))) no_divergence no_precise ∷ idle_records s blocks (suc i) n

abbrev idle_tables : Programme → Timing → Tables
idle_tables p t = record { programme = p; timing = t; records = idle_records (shares p) t.blocks 0 (record_count p t); trim = no_trim p.objects }

idle-valid : (class : ℕ) → record_valid class (record_of (idle class) no_divergence no_precise) ≡ true
unfolding record_valid scene_valid location_valid volume_valid zone_valid screen_valid divergence_valid precise_valid between_if
idle-valid class = whole _ _ (whole _ _ (eq-eqb class class refl) refl) refl

pub all-idle : (s : Shares) (blocks i n : ℕ) → ValidFrom s blocks i (idle_records s blocks i n)
unfolding idle_records
all-idle s blocks i zero = tt
all-idle s blocks i (suc n) = (idle-valid (class_of s (i / blocks)), all-idle s blocks (suc i) n)

pub idle-count : (s : Shares) (blocks i n : ℕ) → length (idle_records s blocks i n) ≡ n
unfolding idle_records
idle-count s blocks i zero = refl
idle-count s blocks i (suc n) = ap suc (idle-count s blocks (suc i) n)

tables-valid : (p : Programme) (t : Timing) → programme_valid p ≡ true → timing_valid t ≡ true → Valid (idle_tables p t)
tables-valid p t v w =
    let n : ℕ = record_count p t in
    let c = idle-count (shares p) t.blocks 0 n in
    let b = no-bad (shares p) t.blocks 0 (idle_records (shares p) t.blocks 0 n) (all-idle (shares p) t.blocks 0 n) in
    record { programme = v; timing = w; count = c; records = omega arith; trim = no-trim_valid p.objects }

-- ---- their form is short

-- a block that is not active has 2 bits
idle-small : (s : Shares) (blocks i n : ℕ) → Every (Small 2) (idle_records s blocks i n)
unfolding idle_records block_bits status_bits
idle-small s blocks i zero = tt
idle-small s blocks i (suc n) = (λ first. also (bits-short 1 1) (bits-short 1 0), idle-small s blocks (suc i) n)

no-extension : (s : Shares) (blocks i n : ℕ) → has_extended (idle_records s blocks i n) ≡ false
unfolding has_extended any idle_records
no-extension s blocks i zero = refl
no-extension s blocks i (suc n) = no-extension s blocks (suc i) n

module _ (p : Programme) (t : Timing) (v : programme_valid p ≡ true) (w : timing_valid t ≡ true) where
  object-short : Short (object_element_bits (idle_tables p t)) 2800
  unfolding object_element_bits
  object-short =
      let pf = programme-facts p v in
      let tf = timing-facts t w in
      let objects = (pf.objects.on refl).1 in
      let blocks = tf.blocks in
      let many : record_count p t ≤ most_objects * most_blocks = mul-le-mul objects blocks in
      let c = idle-count (shares p) t.blocks 0 (record_count p t) in
      let u = sent_long t tf in
      at_most 2800 (also (timing-short t) (also (bits-short 1 1) (objects-short 2 t.blocks 0 p.objects _
      (idle-small (shares p) t.blocks 0 (record_count p t))))) (omega arith)

  form-short : length (form (idle_tables p t)) ≤ most_bytes
  unfolding form form_bits
  form-short =
      let pf = programme-facts p v in
      let nine = pf.nine in
      let b = length-take-le p.bedcount p.beds (beds_le p pf) in
      let few = beds_le p pf in
      let all : Short (form_bits (idle_tables p t)) 3300 =
      rw (no-extension (shares p) t.blocks 0 (record_count p t))
      (at_most 3300 (also (header-short p) (also (bits-short 4 _) (also (if-sent (has_object (idle_tables p t)) (element-short 1 _ 2800 object-short))
      (also none-short none-short)))) (omega arith)) in
      let n = length-to_bytes (form_bits (idle_tables p t)) in
      let m = all.most in
      omega arith
    where
      none-short : Short [] 0
      none-short = record { most = omega arith }

  pub given : GivenBy (λ x. (x.programme ≡ p) × (x.timing ≡ t))
  given = form-gives _ (idle_tables p t) (tables-valid p t v w) form-short (refl, refl)
