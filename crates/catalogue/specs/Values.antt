-- The values that a catalogue takes for a field are exactly those that accepted payloads have there: the fields of a record, the objects, the blocks, the starts and the ramps; and the
-- refusals exactly those that frames have.
use Rattle.std.specs.Prelude.{◌≡◌, refl, Bool, true, List, [], ◌∷◌, ◌++◌, ◌↔◌, ℕ, suc, ◌+◌, ◌*◌, ◌≤◌, ◌<◌, eqb, leb, length, get_or, set, drop, replicate}
use Rattle.std.proofs.Common.{sym, ap, ◌∙◌, subst, arith, eqb-true, leb-true, le-leb, length-append}
use Rattle.std.proofs.Math.ListN.{get_or-append}
use Rattle.bits.specs.Language.{pick, both, between}
use Rattle.bits.specs.Steps.{no_ok}
use Rattle.oamd.specs.declared.Programme.{Programme}
use Rattle.oamd.specs.declared.Timing.{Timing}
use Rattle.oamd.specs.declared.Update.{Update}
use Rattle.oamd.specs.Tables.{most_objects, most_blocks, record_bytes, record_stride, room_bytes, most_trim}
use Rattle.oamd.specs.Programme.{labels, bed_objects, all_beds, named, agrees}
use Rattle.oamd.specs.Timing.{no_update, samples}
use Rattle.oamd.specs.Record.{Record, record_bytes_of, onto}
use Rattle.oamd.specs.Time.{time_of, timed_bytes_of, time_bytes_of}
use Rattle.oamd.specs.Payload.{Tables, tables}
use Rattle.oamd.specs.Answer.{Outcome, laid_records, reading}
use Rattle.demands.specs.Terms.{tables_of}
use Rattle.demands.specs.Answers.{accepted_is}
use Rattle.demands.specs.Numbers.{numbers, roomy}
use Rattle.demands.specs.Lemmas.Reading.{Case, long, stopped, full, read, case, refusal-of}
use Rattle.record.specs.Bytes.{scene_at, divergence_at, precise_at, record_at}
use Rattle.form.specs.Valid.{◌and◌, between_if, location_valid, volume_valid, zone_valid, screen_valid, scene_valid, divergence_valid, precise_valid, record_valid}
use Rattle.form.specs.Valid.{bed_valid, entries_valid, programme_valid, offset_in_samples, update_valid, timing_valid}
use Rattle.form.specs.Lemmas.Tests.{halves, always, all_below, below}
use Rattle.roundtrip.specs.Promises.{GivenBy, RecordGivenBy}
use Rattle.roundtrip.specs.Given.{given}
use Rattle.roundtrip.specs.GivenRecord.{bedless, record-given}
use Rattle.roundtrip.specs.AcceptedRecords.{accepted-records}
use Rattle.roundtrip.specs.Ranges.{read-in_range}
use Rattle.roundtrip.specs.Entries.{records_of, blocks-few}
use Rattle.catalogue.specs.Fields.{fields, field_of, most_start, most_ramp}
use Rattle.catalogue.specs.Sheets.{zeros}
use Rattle.catalogue.specs.Reads.{zeros_long}
use Rattle.catalogue.specs.ReadsFit.{byte_least, byte_most}

-- a payload, read as that of frame 0 with room enough
abbrev pub read_alone : List ℕ → Outcome
read_alone s = reading 0 s (zeros room_bytes) (zeros most_trim)

-- some accepted payload has v as byte k of one of its records
pub record Occurs (k v : ℕ) : Type 0 where
  pub payload : List ℕ
  pub accepted : (read_alone payload).answer.refusal ≡ 0
  pub index : ℕ
  pub there : index < records_of (read_alone payload)
  pub byte : get_or (read_alone payload).buffer (record_stride * index + k) 0 ≡ v

-- ---- what is given is read

given-read : {Q : _} (g : GivenBy Q) → (read_alone g.bytes).answer.refusal ≡ 0
given-read g = go (case 0 g.bytes (zeros room_bytes) (zeros most_trim))
  where
    go : Case 0 g.bytes (zeros room_bytes) (zeros most_trim) → (read_alone g.bytes).answer.refusal ≡ 0
    go (long l e) = absurd (omega (arith, g.short))
    go (stopped r pl m l h two eight e) = absurd (no_ok (sym h ∙ g.reads))
    go (full q to pl l h x e) = absurd (roomy 0 g.bytes (zeros room_bytes) (zeros most_trim) (omega (arith, zeros_long.0)) (omega (arith, zeros_long.1)) (refusal-of e))
    go (read q to l h f f' e) = ap (λ (o : Outcome). o.answer.refusal) e

-- ---- the fields of a record

-- bytes of an active dynamic object: the defaults but for the flag
abbrev plain : List ℕ
plain = 1 ∷ 2 ∷ 0 ∷ 0 ∷ 31 ∷ 31 ∷ 64 ∷ 0 ∷ 0 ∷ 0 ∷ 0 ∷ 0 ∷ 1 ∷ 0 ∷ 0 ∷ 0 ∷ 0 ∷ 0 ∷ 0 ∷ 0 ∷ 0 ∷ 0 ∷ 0 ∷ 0 ∷ []

abbrev diverging : ℕ → ℕ → List ℕ
diverging mode value = set (set (set plain 17 1) 18 mode) 19 value

-- bytes of a record that has v as its byte k: a screen factor and a depth beside the screen flag, a divergence beside its flag and its mode, precise codes beside all presence bits
abbrev having : ℕ → ℕ → List ℕ
having k v =
    pick (between 14 15 k) (set (set plain 13 1) k v)
    (pick (eqb k 18) (diverging v (pick (eqb v 2) 1 0))
    (pick (both (eqb k 19) (leb 1 v)) (diverging 2 v)
    (pick (leb 21 k) (set (set plain 20 7) k v) (set plain k v))))

abbrev record_of : ℕ → ℕ → Record
record_of k v = record_at (having k v) 0

-- computed for each value of each field
abbrev has : ℕ → ℕ → Bool
has k v = leb (get_or (having k v) 1 0) 2 and record_valid (get_or (having k v) 1 0) (record_of k v) and eqb (get_or (record_bytes_of (record_of k v)) k 0) v

abbrev has_or_not : ℕ → ℕ → Bool
has_or_not k v = pick (between (field_of k).least (field_of k).most v) (has k v) true

all_have : all_below record_bytes (λ k. all_below 80 (has_or_not k) and leb (field_of k).most 79) ≡ true
unfolding field_of fields scene_at divergence_at precise_at between_if location_valid volume_valid zone_valid screen_valid scene_valid divergence_valid precise_valid record_valid record_bytes_of
all_have = refl

-- so each has a record of some class
record HasRecord (k v : ℕ) : Type 0 where
  class : ℕ
  row : Record
  low : class ≤ 2
  valid : record_valid class row ≡ true
  byte : get_or (record_bytes_of row) k 0 ≡ v

has_record : (k v : ℕ) → k < record_bytes → (field_of k).least ≤ v → v ≤ (field_of k).most → HasRecord k v
has_record k v l low high =
    let both = halves _ _ (below record_bytes (λ k. all_below 80 (has_or_not k) and leb (field_of k).most 79) all_have k l) in
    let few = leb-true (field_of k).most 79 both.1 in
    let it : has k v ≡ true = rw (always (field_of k).least (field_of k).most v low high) at (below 80 (has_or_not k) both.0 v (omega arith)) in
    let a = halves (leb (get_or (having k v) 1 0) 2) _ it in
    let b = halves (record_valid (get_or (having k v) 1 0) (record_of k v)) _ a.1 in
    record { class = get_or (having k v) 1 0; row = record_of k v; low = leb-true _ _ a.0; valid = b.0; byte = eqb-true _ _ b.1 }

-- the first record of a payload stands first in its buffer
front : (a b c d : List ℕ) (k : ℕ) → k < length a → get_or (((a ++ b) ++ c) ++ d) k 0 ≡ get_or a k 0
front a b c d k l =
    let m = length-append a b in
    let n = length-append (a ++ b) c in
    get_or-append ((a ++ b) ++ c) d 0 k (omega arith) ∙ get_or-append (a ++ b) c 0 k (omega arith) ∙ get_or-append a b 0 k l

first_byte : (frame : ℕ) (r : Record) (t : Tables) (others : List Record) (buffer : List ℕ) (k : ℕ) → t.records ≡ r ∷ others → k < record_bytes
    → get_or (onto (laid_records frame t) buffer) k 0 ≡ get_or (record_bytes_of r) k 0
unfolding onto timed_bytes_of record_bytes_of
first_byte frame r t others buffer k e l =
    rw e (front (record_bytes_of r) (time_bytes_of (time_of frame t.timing 0)) (timed_bytes_of (time_of frame t.timing) 1 others)
    (drop (length (timed_bytes_of (time_of frame t.timing) 0 (r ∷ others))) buffer) k l)

record-occurs : (k v : ℕ) → k < record_bytes → (h : HasRecord k v) → RecordGivenBy h.row → Occurs k v
record-occurs k v l h g =
    let z = given-read g in
    let is = accepted_is 0 g.bytes (zeros room_bytes) (zeros most_trim) g.payload g.end z g.reads in
    let t = tables_of g.payload in
    let long = (accepted-records g.bytes g.payload g.end g.reads).long in
    record {
      payload = g.bytes;
      accepted = z;
      index = 0;
      there = rw is (let n : length t.records ≡ suc (length g.gives.0) = ap length g.gives.1 in omega (arith, long));
      byte = rw is (ap (λ (i : ℕ). get_or (onto (laid_records 0 t) (zeros room_bytes)) i 0) (let e : record_stride * 0 + k ≡ k = omega arith in e)
          ∙ first_byte 0 h.row t g.gives.0 (zeros room_bytes) k g.gives.1 l ∙ h.byte);
    }

-- Exactly the values from least to most of a field occur.
pub values_occur : (k v : ℕ) → k < record_bytes → (((field_of k).least ≤ v) × (v ≤ (field_of k).most)) ↔ Occurs k v
values_occur k v l = (
  (λ h. let has = has_record k v l h.0 h.1 in record-occurs k v l has (record-given has.class has.row has.low has.valid)),
  (λ o.
      let r = read-in_range 0 o.payload (zeros room_bytes) (zeros most_trim) o.accepted in (
        subst (λ (x : ℕ). (field_of k).least ≤ x) o.byte (byte_least r o.index k o.there l),
        subst (λ (x : ℕ). x ≤ (field_of k).most) o.byte (byte_most r o.index k o.there l),
      )),
)

-- ---- the other numbers of a catalogue

-- some accepted payload is read to an outcome of which Q holds
pub record Read (Q : Outcome → Type 0) : Type 0 where
  pub payload : List ℕ
  pub accepted : (read_alone payload).answer.refusal ≡ 0
  pub gives : Q (read_alone payload)

-- so many dynamic objects
abbrev programme_of : ℕ → Programme
programme_of objects = bedless objects 1 0 0

-- so many blocks, the first of which has a start and a ramp
abbrev timing_of : ℕ → ℕ → ℕ → Timing
timing_of blocks start ramp = record { blocks = blocks; updates = record { start = samples start; ramp = samples ramp } ∷ replicate 7 no_update }

valid-objects : (n : ℕ) → n < 160 → pick (leb 1 n) (programme_valid (programme_of n)) true ≡ true
unfolding programme_valid entries_valid bed_valid agrees named all_beds bed_objects labels between_if
valid-objects = below 160 (λ n. pick (leb 1 n) (programme_valid (programme_of n)) true) refl

valid-blocks : (n : ℕ) → n < 9 → timing_valid (timing_of n 0 0) ≡ true
unfolding timing_valid offset_in_samples entries_valid update_valid between_if
valid-blocks = below 9 (λ n. timing_valid (timing_of n 0 0)) refl

valid-starts : (n : ℕ) → n < 2048 → timing_valid (timing_of 1 n 0) ≡ true
unfolding timing_valid offset_in_samples entries_valid update_valid between_if
valid-starts = below 2048 (λ n. timing_valid (timing_of 1 n 0)) refl

valid-ramps : (n : ℕ) → n < 2049 → timing_valid (timing_of 1 0 n) ≡ true
unfolding timing_valid offset_in_samples entries_valid update_valid between_if
valid-ramps = below 2049 (λ n. timing_valid (timing_of 1 0 n)) refl

one-object : programme_valid (programme_of 1) ≡ true
one-object = valid-objects 1 (omega arith)

-- a programme and a timing that are valid are read of some payload
given-outcome : (Q : Outcome → Type 0) (p : Programme) (t : Timing) → programme_valid p ≡ true → timing_valid t ≡ true
    → ((o : Outcome) → o.answer.programme ≡ p → o.answer.timing ≡ t → Q o) → Read Q
unfolding tables
given-outcome Q p t v w q =
    let g = given p t v w in
    let z = given-read g in
    let is = accepted_is 0 g.bytes (zeros room_bytes) (zeros most_trim) g.payload g.end z g.reads in
    record {
      payload = g.bytes;
      accepted = z;
      gives = q (read_alone g.bytes) (ap (λ (o : Outcome). o.answer.programme) is ∙ g.gives.0) (ap (λ (o : Outcome). o.answer.timing) is ∙ g.gives.1);
    }

-- an update of a frame, by what is looked at
pub record AnUpdate (f : Update → ℕ) (v : ℕ) (o : Outcome) : Type 0 where
  pub blk : ℕ
  pub used : blk < o.answer.timing.blocks
  pub is : f (get_or o.answer.timing.updates blk no_update) ≡ v

first-update : (f : Update → ℕ) (v start ramp : ℕ) → f (record { start = samples start; ramp = samples ramp }) ≡ v → (o : Outcome) → o.answer.timing ≡ timing_of 1 start ramp
    → AnUpdate f v o
first-update f v start ramp e o h =
    record { blk = 0; used = rw h (omega arith); is = ap (λ (t : Timing). f (get_or t.updates 0 no_update)) h ∙ e }

-- 1 to 159 objects
pub objects_occur : (v : ℕ) → ((1 ≤ v) × (v ≤ most_objects)) ↔ Read (λ o. o.answer.programme.objects ≡ v)
objects_occur v = (
  (λ h.
      let valid = rw (le-leb 1 v h.0) at (valid-objects v (omega arith)) in
      given-outcome _ (programme_of v) (timing_of 0 0 0) valid (valid-blocks 0 (omega arith)) (λ o p t. ap (λ (p : Programme). p.objects) p)),
  (λ r.
      let n = (numbers 0 r.payload (zeros room_bytes) (zeros most_trim) r.accepted).3.objects in
      subst (λ (x : ℕ). (1 ≤ x) × (x ≤ most_objects)) r.gives (n.0, n.1)),
)

-- none to 8 blocks
pub blocks_occur : (v : ℕ) → (v ≤ most_blocks) ↔ Read (λ o. o.answer.timing.blocks ≡ v)
blocks_occur v = (
  (λ h. given-outcome _ (programme_of 1) (timing_of v 0 0) one-object (valid-blocks v (omega arith)) (λ o p t. ap (λ (t : Timing). t.blocks) t)),
  (λ r.
      let n = (numbers 0 r.payload (zeros room_bytes) (zeros most_trim) r.accepted).3.blocks in
      subst (λ (x : ℕ). x ≤ most_blocks) r.gives (blocks-few n)),
)

-- starts from 0 to 2,047
pub starts_occur : (v : ℕ) → (v ≤ most_start) ↔ Read (AnUpdate (λ u. u.start.0) v)
starts_occur v = (
  (λ h. given-outcome _ (programme_of 1) (timing_of 1 v 0) one-object (valid-starts v (omega arith)) (λ o p t. first-update _ v v 0 refl o t)),
  (λ r.
      let n = (read-in_range 0 r.payload (zeros room_bytes) (zeros most_trim) r.accepted).updates.starts r.gives.blk r.gives.used in
      subst (λ (x : ℕ). x ≤ most_start) r.gives.is n),
)

-- ramps from 0 to 2,048
pub ramps_occur : (v : ℕ) → (v ≤ most_ramp) ↔ Read (AnUpdate (λ u. u.ramp.0) v)
ramps_occur v = (
  (λ h. given-outcome _ (programme_of 1) (timing_of 1 0 v) one-object (valid-ramps v (omega arith)) (λ o p t. first-update _ v 0 v refl o t)),
  (λ r.
      let n = (read-in_range 0 r.payload (zeros room_bytes) (zeros most_trim) r.accepted).updates.ramps r.gives.blk r.gives.used in
      subst (λ (x : ℕ). x ≤ most_ramp) r.gives.is n),
)
