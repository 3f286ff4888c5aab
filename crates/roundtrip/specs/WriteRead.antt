-- The round trip as the host calls it: what an accepted write has written is read back as the same programme, timing, record bytes and trim bytes.
use Rattle.std.specs.Prelude.{◌≡◌, refl, List, [], ◌∷◌, ℕ, suc, ◌+◌, ◌*◌, ◌/◌, ◌≤◌, length, take, drop, leb, ltb}
use Rattle.std.proofs.Common.{arith, leb-true, le-leb, ltb-false, le-ltb}
use Rattle.std.proofs.Math.Seq.{take-append_seam}
use Rattle.oamd.specs.declared.Programme.{Programme}
use Rattle.oamd.specs.declared.Timing.{Timing}
use Rattle.oamd.specs.declared.Shares.{Shares}
use Rattle.oamd.specs.Tables.{most_bytes, record_stride}
use Rattle.oamd.specs.Programme.{shares, class_of}
use Rattle.oamd.specs.Trim.{trim_needed}
use Rattle.oamd.specs.Record.{Record, onto}
use Rattle.oamd.specs.Time.{time_of}
use Rattle.oamd.specs.Answer.{laid_records, accepted_with, needed, reading}
use Rattle.form.specs.Valid.{◌and◌, programme_valid, timing_valid, record_valid, first_bad, first_mistimed, trim_valid, record_count, Valid}
use Rattle.form.specs.Form.{form}
use Rattle.record.specs.Bytes.{records_at, times_at}
use Rattle.form.specs.Answer.{trim_at, tables_of, written_to, fitted, trimmed, first_refused, judged, writing}
use Rattle.form.specs.Lemmas.Tests.{halves, by-test}
use Rattle.record.specs.Entries.{from_first}
use Rattle.record.specs.Laws.{records-bytes, records-count}
use Rattle.roundtrip.specs.Lemmas.TableBytes.{trim-bytes}
use Rattle.roundtrip.specs.Lemmas.Times.{Right, before_mistimed, all_right}
use Rattle.roundtrip.specs.RoundTrip.{reads-back}
use Rattle.roundtrip.specs.Promises.{OnTime, AllOnTime, Accepts}

-- ---- an accepted write

-- the first bad record is one of them, or lies just behind the last
first-bad_le : (sh : Shares) (blocks i : ℕ) (rs : List Record) → first_bad sh blocks i rs ≤ i + length rs
unfolding first_bad
first-bad_le sh blocks i [] = omega arith
first-bad_le sh blocks i (r ∷ rs) =
    let l = first-bad_le sh blocks (suc i) rs in
    by-test (record_valid (class_of sh (i / blocks)) r) (λ q. rw q (omega arith)) (λ q. rw q (omega arith))

-- record k of those at the front of the bytes
pub on-time : (frame : ℕ) (t : Timing) (s : List ℕ) (k : ℕ) → Right (time_of frame t) s 0 0 k → OnTime frame t s k
on-time frame t s k h =
    let e : 0 + record_stride * k ≡ record_stride * k = omega arith in
    let f : 0 + k ≡ k = omega arith in
    rw (e, f) at h

pub right_at : (frame : ℕ) (t : Timing) (s : List ℕ) (k : ℕ) → OnTime frame t s k → Right (time_of frame t) s 0 0 k
right_at frame t s k h =
    let e : 0 + record_stride * k ≡ record_stride * k = omega arith in
    let f : 0 + k ≡ k = omega arith in
    rw (e, f) h

-- with no record refused, none is bad and none mistimed
pub none-refused : (frame : ℕ) (p : Programme) (t : Timing) (s : List ℕ) → record_count p t ≤ first_refused frame p t s
    → (record_count p t ≤ first_bad (shares p) t.blocks 0 (records_at s (record_count p t) 0))
    × (record_count p t ≤ first_mistimed (time_of frame t) 0 (times_at s (record_count p t) 0))
unfolding first_refused
none-refused frame p t s h = (omega arith, omega arith)

-- with none bad, the first that is refused is the first that is mistimed
pub refused_mistimed : (frame : ℕ) (p : Programme) (t : Timing) (s : List ℕ) (i : ℕ)
    → first_bad (shares p) t.blocks 0 (records_at s (record_count p t) 0) ≡ record_count p t
    → first_mistimed (time_of frame t) 0 (times_at s (record_count p t) 0) ≡ i → i ≤ record_count p t → first_refused frame p t s ≡ i
unfolding first_refused
refused_mistimed frame p t s i good late few = omega arith

pub accepts : (frame : ℕ) (p : Programme) (t : Timing) (s x out : List ℕ) → (writing frame p t s x out).answer.refusal ≡ 0 → Accepts frame p t s x out
unfolding writing judged trimmed fitted
accepts frame p t s x out h =
    let bad : ℕ = first_refused frame p t s in
    let payload : List ℕ = form (tables_of p t s x) in
    by-test (programme_valid p and timing_valid t and leb (needed (tables_of p t s x)) (length s))
    (λ a.
    let f = halves (programme_valid p) _ a in
    let g = halves (timing_valid t) _ f.1 in
    by-test (ltb bad (record_count p t))
    (λ b. let z : ◌≡◌ {A = ℕ} 10 0 = rw (a, b) at h in absurd (omega arith))
    (λ b.
    let n = records-count s (record_count p t) 0 in
    let m = none-refused frame p t s (ltb-false bad (record_count p t) b) in
    let k = first-bad_le (shares p) t.blocks 0 (records_at s (record_count p t) 0) in
    by-test (leb (trim_needed p.objects) (length x) and trim_valid p.objects (trim_at p.objects x))
    (λ c.
    let u = halves (leb (trim_needed p.objects) (length x)) _ c in
    by-test (leb (length payload) (length out) and leb (length payload) most_bytes)
    (λ d.
    let w = halves (leb (length payload) (length out)) _ d in
    record {
      valid = record { programme = f.0; timing = g.0; count = n; records = omega (arith, m.0); trim = u.1 };
      timed = λ i l. on-time frame t s i (before_mistimed (time_of frame t) s (record_count p t) 0 0 i l (omega (arith, m.1)));
      enough = leb-true _ _ g.1;
      trim-enough = leb-true _ _ u.0;
      room = leb-true _ _ w.0;
      short = leb-true _ _ w.1;
      written = rw (a, b, c, d);
    })
    (λ d. let z : ◌≡◌ {A = ℕ} 11 0 = rw (a, b, c, d) at h in absurd (omega arith)))
    (λ c. let z : ◌≡◌ {A = ℕ} 10 0 = rw (a, b, c) at h in absurd (omega arith))))
    (λ a. let z : ◌≡◌ {A = ℕ} 10 0 = rw a at h in absurd (omega arith))

-- and a write of valid tables, with records on time, that has the bytes and the room is accepted
pub writes-valid : (frame : ℕ) (p : Programme) (t : Timing) (s x out : List ℕ) → Valid (tables_of p t s x) → AllOnTime frame p t s
    → needed (tables_of p t s x) ≤ length s → trim_needed p.objects ≤ length x → length (form (tables_of p t s x)) ≤ length out → length (form (tables_of p t s x)) ≤ most_bytes
    → writing frame p t s x out ≡ written_to out (form (tables_of p t s x))
unfolding writing judged trimmed fitted
writes-valid frame p t s x out v timed enough trim-enough room short =
    let late = all_right (time_of frame t) s (record_count p t) 0 0 (λ k l. right_at frame t s k (timed k l)) in
    let n = refused_mistimed frame p t s (record_count p t) v.records (omega arith) (omega arith) in
    rw (
      v.programme,
      v.timing,
      le-leb (needed (tables_of p t s x)) (length s) enough,
      le-ltb (first_refused frame p t s) (record_count p t) (omega arith),
      le-leb (trim_needed p.objects) (length x) trim-enough,
      v.trim,
      le-leb (length (form (tables_of p t s x))) (length out) room,
      le-leb (length (form (tables_of p t s x))) most_bytes short,
    ) refl

-- ---- what was written is read back

-- What an accepted write has put into the buffer, read with the same frame into buffers that have the room, gives the programme, the timing, the record bytes
-- and the bytes of the trim table that were given to the write, and no unknown element.
pub write_read : (frame : ℕ) (p : Programme) (t : Timing) (s x out buffer trim : List ℕ) → (writing frame p t s x out).answer.refusal ≡ 0
    → needed (tables_of p t s x) ≤ length buffer → trim_needed p.objects ≤ length trim
    → reading frame (take (writing frame p t s x out).answer.length.0 (writing frame p t s x out).out) buffer trim
    ≡ record {
      answer = accepted_with p t 0;
      buffer = onto (take (needed (tables_of p t s x)) s) buffer;
      trim = onto (take (trim_needed p.objects) x) trim;
    }
unfolding onto
write_read frame p t s x out buffer trim h room trim-room =
    let w = accepts frame p t s x out h in
    let payload : List ℕ = form (tables_of p t s x) in
    let front : take (length payload) (onto payload out) ≡ payload = take-append_seam payload (drop (length payload) out) in
    let bytes : laid_records frame (tables_of p t s x) ≡ take (needed (tables_of p t s x)) (drop 0 s) =
    records-bytes (time_of frame t) s (record_count p t) 0 0 (λ k l. right_at frame t s k (w.timed k l)) (let e = w.enough in omega arith) in
    rw (
      w.written,
      front,
      reads-back frame (tables_of p t s x) buffer trim w.valid w.short room trim-room,
      bytes,
      from_first s,
      trim-bytes p.objects x w.trim-enough,
    ) refl
