-- The ranges of docs/DECISIONS.md: whatever is accepted, its reserved content flag set or clear, every byte of every record is in its range, every start up to
-- 2,047, every ramp up to 2,048; and every byte that a read lays is below 256.
use Rattle.std.specs.Prelude.{◌≡◌, refl, true, List, [], ◌∷◌, ℕ, zero, suc, ◌+◌, ◌-◌, ◌*◌, ◌/◌, ◌%◌, ◌≤◌, ◌<◌, length, get_or, drop}
use Rattle.std.proofs.Common.{sym, subst, arith}
use Rattle.std.proofs.Math.ListN.{get_or-append}
use Rattle.bits.specs.Language.{ok, run, bit, past_payload}
use Rattle.bits.specs.Steps.{by_order}
use Rattle.bits.specs.Terms.{Every}
use Rattle.oamd.specs.declared.Timing.{Timing}
use Rattle.oamd.specs.Tables.{record_bytes, time_bytes, record_stride}
use Rattle.oamd.specs.LeastFirst.{least_first}
use Rattle.oamd.specs.Timing.{no_update}
use Rattle.oamd.specs.declared.Shares.{Shares}
use Rattle.oamd.specs.Programme.{shares, class_of}
use Rattle.oamd.specs.Record.{Record, carries, onto}
use Rattle.oamd.specs.Trim.{TrimTable, trim_bytes_of, trim_needed}
use Rattle.oamd.specs.Lengths.{length-trim}
use Rattle.oamd.specs.Payload.{Payload, object_audio_metadata_payload, tables}
use Rattle.oamd.specs.Answer.{Outcome, reading}
use Rattle.demands.specs.Terms.{tables_of}
use Rattle.demands.specs.Lemmas.Reading.{read_of}
use Rattle.demands.specs.Time.{time_when}
use Rattle.form.specs.Valid.{offset_in_samples, update_valid, timing_valid, scene_valid, most_divergence, divergence_valid, record_valid, trim_valid, record_count}
use Rattle.record.specs.Bytes.{scene_at, divergence_at, precise_at, record_at}
use Rattle.form.specs.Lemmas.Tests.{halves}
use Rattle.form.specs.Lemmas.Facts.{timing-facts}
use Rattle.roundtrip.specs.Lemmas.TimingBack.{UpdateFacts, update-facts, no-update}
use Rattle.roundtrip.specs.Lemmas.BlockBack.{scene-facts}
use Rattle.roundtrip.specs.Lemmas.ExtendedBack.{divergence-facts, precise-facts}
use Rattle.roundtrip.specs.Lemmas.ObjectsBack.{ValidFrom}
use Rattle.roundtrip.specs.Lemmas.TrimBack.{trim-facts}
use Rattle.roundtrip.specs.Lemmas.AcceptedTiming.{entry_le}
use Rattle.roundtrip.specs.Lemmas.RangeFacts.{most, least, class_le, entry-used, entry-unused, trim-small, small_at}
use Rattle.roundtrip.specs.AcceptedRecords.{accepted-records, accepted-timing, accepted-trim, read-records}
use Rattle.roundtrip.specs.Promises.{most_byte, InRange, UpdatesInRange, ReadInRange}

-- by the class of its object
in-range : (class : ℕ) (r : Record) → class ≤ 2 → record_valid class r ≡ true → InRange r
unfolding record_valid
in-range class r few v =
    let a = halves (scene_valid class r.scene) _ v in
    let b = halves (divergence_valid (carries r.scene) r.divergence) _ a.1 in
    let f = scene-facts class r.scene a.0 in
    let d = divergence-facts (carries r.scene) r.divergence b.0 in
    let p = precise-facts (carries r.scene) r.precise b.1 in
    let kind = f.kind in
    let table : most_divergence r.divergence.mode ≤ 63 = entry_le 63 (3 ∷ 0 ∷ 63 ∷ []) r.divergence.mode refl in
    record {
      active = f.active;
      class = omega arith;
      gain = most f.gain (omega arith);
      priority = most f.priority (omega arith);
      x = most f.x (omega arith);
      y = most f.y (omega arith);
      z = (least f.z (omega arith), most f.z (omega arith));
      distance = most f.distance (omega arith);
      width = most f.width (omega arith);
      depth = most f.depth (omega arith);
      height = most f.height (omega arith);
      zone = most f.zone (omega arith);
      elevation = most f.elevation (omega arith);
      screen = most f.used (omega arith);
      factor = most f.factor (omega arith);
      depth-index = most f.back (omega arith);
      snap = most f.snap (omega arith);
      divergence = most d.used (omega arith);
      mode = most d.mode (omega arith);
      value = most d.value (omega arith);
      presence = most p.presence (omega arith);
      code-x = most p.x (omega arith);
      code-y = most p.y (omega arith);
      code-z = most p.z (omega arith);
    }

-- f from i on, each up to the entry of a list
data UpTo (f : ℕ → ℕ) : ℕ → List ℕ → Type 0 where
  none : {i : ℕ} → UpTo f i []
  more : {i high : ℕ} {highs : List ℕ} → f i ≤ high → UpTo f (suc i) highs → UpTo f i (high ∷ highs)

up_to : {f : ℕ → ℕ} {i : ℕ} {highs : List ℕ} → UpTo f i highs → (k : ℕ) → k < length highs → f (i + k) ≤ get_or highs k 0
up_to none k l = absurd (omega arith)
up_to {i = i} (more h rest) zero l = let e : i + 0 ≡ i = omega arith in rw e h
up_to {i = i} (more h rest) (suc k) l = let e : i + suc k ≡ suc i + k = omega arith in rw e (up_to rest k (omega arith))

bytes-in_range : (b : List ℕ) (at : ℕ) → InRange (record_at b at) → (k : ℕ) → k < record_bytes → get_or b (at + k) 0 ≤ get_or most_byte k 0
unfolding scene_at divergence_at precise_at
bytes-in_range b at r k l =
    let e : at + 0 ≡ at = omega arith in
    let f : 0 + k ≡ k = omega arith in
    let first : get_or b (at + 0) 0 ≤ 1 = rw e r.active in
    let all : UpTo (λ i. get_or b (at + i) 0) 0 most_byte =
    more first (more r.class (more r.gain (more r.priority
    (more r.x (more r.y (more r.z.1 (more r.distance
    (more r.width (more r.depth (more r.height (more r.zone (more r.elevation
    (more r.screen (more r.factor (more r.depth-index (more r.snap
    (more r.divergence (more r.mode (more r.value
    (more r.presence (more r.code-x (more r.code-y (more r.code-z none))))))))))))))))))))))) in
    rw f at (up_to all k l)

-- ---- the tables

updates-in_range : (t : Timing) → timing_valid t ≡ true → UpdatesInRange t
updates-in_range t v =
    let f = timing-facts t v in
    let few = f.blocks in
    let eight = f.eight in
    let offset : ℕ = offset_in_samples t in
    let used : (i : ℕ) → i < t.blocks → UpdateFacts offset true (get_or t.updates i no_update) =
    λ i l. update-facts offset true _ (entry-used (update_valid offset) no_update t.blocks t.updates f.updates i l (omega arith)) in
    record {
      eight = eight;
      starts = λ i l. most (used i l).start (omega arith);
      ramps = λ i l. most (used i l).ramp (omega arith);
      unused = λ i l m. no-update offset _ (entry-unused (update_valid offset) no_update t.blocks t.updates f.updates i (omega arith) (omega arith));
    }

records-in_range : (s : Shares) (blocks i : ℕ) (rs : List Record) → ValidFrom s blocks i rs → Every InRange rs
records-in_range s blocks i [] h = tt
records-in_range s blocks i (r ∷ rs) h =
    (in-range (class_of s (i / blocks)) r (class_le s (i / blocks)) h.0, records-in_range s blocks (suc i) rs h.1)

-- the records and the timing of whatever is read as a payload
pub accepted-in_range : (s : List ℕ) (q : Payload) (to : ℕ) → run object_audio_metadata_payload (bit s) 0 (8 * length s) past_payload ≡ ok q to
    → Every InRange (tables q.programme q.known).records × UpdatesInRange (tables q.programme q.known).timing
accepted-in_range s q to h =
    let t = tables_of q in (
      records-in_range (shares t.programme) t.timing.blocks 0 t.records (accepted-records s q to h).valid,
      updates-in_range t.timing (accepted-timing s q to h),
    )

-- ---- the answer and the buffers

-- the bytes of a valid trim table, whatever stands behind them
trim-bytes-small : (objects : ℕ) (t : TrimTable) (trim : List ℕ) → trim_valid objects t ≡ true → (n : ℕ) → n < trim_needed objects
    → get_or (onto (trim_bytes_of t) trim) n 0 < 256
unfolding onto
trim-bytes-small objects t trim v n l =
    let f = trim-facts objects t v in
    let long = length-trim objects t f.nine f.flags in
    let m = small_at (trim-small objects t v) n in
    rw (get_or-append (trim_bytes_of t) (drop (length (trim_bytes_of t)) trim) 0 n (omega arith)) (omega arith)

-- numbers as bytes
least-small : (n v k : ℕ) → get_or (least_first n v) k 0 < 256
unfolding least_first
least-small zero v k = omega arith
least-small (suc n) v zero = omega arith
least-small (suc n) v (suc k) = least-small n (v / 256) k

-- every accepted read
pub read-in_range : (frame : ℕ) (s buffer trim : List ℕ) → (reading frame s buffer trim).answer.refusal ≡ 0 → ReadInRange (reading frame s buffer trim)
read-in_range frame s buffer trim z =
    let o : Outcome = reading frame s buffer trim in
    let v = read-records frame s buffer trim z in
    let r = read_of frame s buffer trim z in
    let t = tables_of r.payload in
    let times = time_when frame s buffer trim z in
    let records : (i : ℕ) → i < record_count o.answer.programme o.answer.timing → InRange (record_at o.buffer (record_stride * i)) =
    λ i l. in-range _ _ (class_le (shares o.answer.programme) (i / o.answer.timing.blocks)) (v.records i l) in
    let bytes : (i k : ℕ) → i < record_count o.answer.programme o.answer.timing → k < record_bytes
    → get_or o.buffer (record_stride * i + k) 0 ≤ get_or most_byte k 0 =
    λ i k l m. bytes-in_range o.buffer (record_stride * i) (records i l) k m in
    record {
      records = records;
      bytes = bytes;
      updates = updates-in_range o.answer.timing v.timing;
      laid = λ n l.
          let e : record_stride * (n / record_stride) + n % record_stride ≡ n = omega arith in
          let i : ℕ = n / record_stride in
          let k : ℕ = n % record_stride in
          by_order record_bytes k
          (λ behind.
          let f : record_stride * i + record_bytes + (k - record_bytes) ≡ n = omega arith in
          subst (λ (m : ℕ). m < 256) (sym (rw f at (times.bytes i (k - record_bytes) (omega arith) (omega arith)))) (least-small time_bytes _ (k - record_bytes)))
          (λ own.
          let low = entry_le 79 most_byte k refl in
          let high = rw e at (bytes i k (omega arith) (omega arith)) in
          omega arith);
      trim-laid = subst (λ (o : Outcome). (n : ℕ) → n < trim_needed o.answer.programme.objects → get_or o.trim n 0 < 256) (sym r.is)
          (trim-bytes-small t.programme.objects t.trim trim (accepted-trim s r.payload r.to r.ran));
    }
