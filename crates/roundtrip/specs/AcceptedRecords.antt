-- The records, the timing and the trim table of every accepted payload are valid, its reserved content flag set or clear: all that `Valid` asks for,
-- but for the programme.
use Rattle.std.specs.Prelude.{◌≡◌, true, length}
use Rattle.std.proofs.Common.{sym, ◌∙◌, subst, mul-zero}
use Rattle.std.proofs.Math.Path.{ap}
use mathlib.Core.List.{List, [], ◌++◌}
use Rattle.std.proofs.Math.Option.{Option, none, some}
use Prim.Native.Nat.{ℕ, zero, suc, ◌+◌, ◌*◌, ◌/◌, ◌<◌}
use native.Mathlib.Omega.{arith}
use Rattle.std.proofs.Math.Arith.{digits_div, digits_lt}
use Rattle.std.proofs.Math.ListN.{drop}
use Rattle.bits.specs.Language.{ok, run, bit, past_payload}
use Rattle.bits.specs.Bytes.{bit_lt}
use Rattle.bits.specs.Ensures.{ensured, e-give, e-bind, e-any, e-then}
use Rattle.bits.specs.Terms.{Ensures}
use Rattle.oamd.specs.declared.Programme.{Programme}
use Rattle.oamd.specs.declared.Shares.{Shares}
use Rattle.oamd.specs.Tables.{record_stride}
use Rattle.oamd.specs.Programme.{shares, class_of}
use Rattle.oamd.specs.Timing.{timing_of}
use Rattle.oamd.specs.ObjectElement.{ObjectElement}
use Rattle.oamd.specs.Extended.{Extension}
use Rattle.oamd.specs.Trim.{trim_bytes_of, trim_of}
use Rattle.oamd.specs.Record.{Record, onto, plain_records}
use Rattle.oamd.specs.Time.{time_of}
use Rattle.oamd.specs.Element.{scenes, nothing}
use Rattle.oamd.specs.Payload.{Payload, object_audio_metadata_payload, Tables, timing, records, tables}
use Rattle.oamd.specs.Answer.{Outcome, laid_records, reading}
use Rattle.demands.specs.Terms.{tables_of}
use Rattle.demands.specs.Lemmas.Reading.{read_of}
use Rattle.form.specs.Valid.{record_valid, timing_valid, trim_valid, record_count}
use Rattle.record.specs.Bytes.{record_at, records_at}
use Rattle.form.specs.Answer.{trim_at}
use Rattle.roundtrip.specs.Lemmas.ObjectsBack.{ValidFrom}
use Rattle.roundtrip.specs.Lemmas.TrimBack.{trim-facts}
use Rattle.record.specs.Laws.{records-again}
use Rattle.roundtrip.specs.Lemmas.TableBytes.{trim-again}
use Rattle.roundtrip.specs.Lemmas.AcceptedTiming.{timing-valid}
use Rattle.roundtrip.specs.Lemmas.AcceptedScenes.{all_valid}
use Rattle.roundtrip.specs.Lemmas.AcceptedRecords.{RecordsValid, plain-valid, extended-valid}
use Rattle.roundtrip.specs.Lemmas.AcceptedTrim.{no-trim_valid}
use Rattle.roundtrip.specs.Accepted.{Kept, TrimKept, elements_ensure, no-timing_valid, element-scenes}
use Rattle.roundtrip.specs.Promises.{ValidRead}

-- ---- the tables

-- what is known was kept as it was read
record PayloadKept (q : Payload) : Type 0 where
  elements : Kept q.programme q.known.object q.known.extended
  trim : TrimKept q.programme q.known.trim

kept-ensures : Ensures object_audio_metadata_payload PayloadKept
unfolding object_audio_metadata_payload trim_of
kept-ensures =
    e-bind _ _ _ (e-any _ _ λ head.
    e-bind _ _ _ (e-any _ _ λ n.
    e-bind _ _ _ (e-then _ _ _ (elements_ensure head.programme head.alternate n (record { known = nothing; unknown = 0 })
    (tt, no-trim_valid head.programme.objects)) λ st k.
    e-give _ _ (record { elements = k.0; trim = k.1 }))))

records-kept : (p : Programme) (o : Option ObjectElement) (x : Option Extension) → Kept p o x
    → RecordsValid (shares p) (timing o).blocks 0 (p.objects * (timing o).blocks) (records (scenes o) x)
unfolding timing timing_of records scenes plain_records
records-kept p none none h = record { valid = tt; long = sym (mul-zero p.objects) }
records-kept p none (some x) h = absurd h
records-kept p (some e) none h =
    let r = plain-valid (shares p) (length e.timing.blocks) 0 (scenes (some e)) (element-scenes p e h) in
    record { valid = r.valid; long = r.long ∙ (all_valid (shares p) _ 0 p.objects [] e.objects tt h.objects).1 }
records-kept p (some e) (some x) h =
    let r = extended-valid (shares p) (length e.timing.blocks) 0 (scenes (some e)) x.divergence x.precise (element-scenes p e h.0)
    h.1.divergence h.1.precise in
    record { valid = r.valid; long = r.long ∙ (all_valid (shares p) _ 0 p.objects [] e.objects tt h.0.objects).1 }

timing-kept : (p : Programme) (o : Option ObjectElement) (x : Option Extension) → Kept p o x → timing_valid (timing o) ≡ true
unfolding timing
timing-kept p none x h = no-timing_valid
timing-kept p (some e) none h = timing-valid e.timing h.timing
timing-kept p (some e) (some x) h = timing-valid e.timing h.0.timing

module _ (s : List ℕ) (q : Payload) (to : ℕ) (h : run object_audio_metadata_payload (bit s) 0 (8 * length s) past_payload ≡ ok q to) where
  abbrev given : Tables
  given = tables q.programme q.known

  kept : PayloadKept q
  kept = ensured object_audio_metadata_payload _ kept-ensures (bit s) (bit_lt s) 0 (8 * length s) past_payload h

  -- each record is valid by the class of its object, and there is one for each object and block
  pub accepted-records : RecordsValid (shares given.programme) given.timing.blocks 0 (record_count given.programme given.timing) given.records
  unfolding tables
  accepted-records = records-kept q.programme q.known.object q.known.extended kept.elements

  pub accepted-timing : timing_valid given.timing ≡ true
  unfolding tables
  accepted-timing = timing-kept q.programme q.known.object q.known.extended kept.elements

  pub accepted-trim : trim_valid given.programme.objects given.trim ≡ true
  unfolding tables
  accepted-trim = kept.trim

-- ---- the answer and the buffers

-- record k of those that stand in a buffer
valid-at : (s : Shares) (blocks i : ℕ) (b : List ℕ) (n at k : ℕ) → ValidFrom s blocks i (records_at b n at) → k < n
    → record_valid (class_of s ((i + k) / blocks)) (record_at b (at + record_stride * k)) ≡ true
unfolding records_at
valid-at s blocks i b zero at k h l = absurd (omega arith)
valid-at s blocks i b (suc n) at zero h l =
    let e : i + 0 ≡ i = omega arith in
    let f : at + record_stride * 0 ≡ at = omega arith in
    rw (e, f) h.0
valid-at s blocks i b (suc n) at (suc k) h l =
    let e : i + suc k ≡ suc i + k = omega arith in
    let f : at + record_stride * suc k ≡ at + record_stride + record_stride * k = omega arith in
    rw (e, f) (valid-at s blocks (suc i) b n (at + record_stride) k h.1 (omega arith))

module _ (frame : ℕ) (t : Tables) where
  records-stand : (buffer : List ℕ)
      → RecordsValid (shares t.programme) t.timing.blocks 0 (record_count t.programme t.timing) t.records
      → (i : ℕ) → i < record_count t.programme t.timing
      → record_valid (class_of (shares t.programme) (i / t.timing.blocks)) (record_at (onto (laid_records frame t) buffer) (record_stride * i)) ≡ true
  unfolding onto
  records-stand buffer r i l =
      let rs : List Record = t.records in
      let laid : List ℕ = laid_records frame t in
      let tail : List ℕ = drop (length laid) buffer in
      let again : records_at (laid ++ tail) (record_count t.programme t.timing) 0 ≡ rs =
      ap (λ (n : ℕ). records_at (laid ++ tail) n 0) (sym r.long) ∙ records-again (time_of frame t.timing) 0 rs tail in
      let v = valid-at (shares t.programme) t.timing.blocks 0 (laid ++ tail) _ 0 i (rw again r.valid) l in
      let e : 0 + i ≡ i = omega arith in
      let f : 0 + record_stride * i ≡ record_stride * i = omega arith in
      rw (e, f) at v

  trim-stands : (trim : List ℕ) → trim_valid t.programme.objects t.trim ≡ true
      → trim_valid t.programme.objects (trim_at t.programme.objects (onto (trim_bytes_of t.trim) trim)) ≡ true
  unfolding onto
  trim-stands trim v =
      let f = trim-facts t.programme.objects t.trim v in
      rw (trim-again t.programme.objects t.trim f.nine f.flags (drop (length (trim_bytes_of t.trim)) trim)) v

pub read-records : (frame : ℕ) (s buffer trim : List ℕ) → (reading frame s buffer trim).answer.refusal ≡ 0 → ValidRead (reading frame s buffer trim)
read-records frame s buffer trim z =
    let r = read_of frame s buffer trim z in
    let t = tables_of r.payload in
    subst ValidRead (sym r.is) (record {
      records = records-stand frame t buffer (accepted-records s r.payload r.to r.ran);
      timing = accepted-timing s r.payload r.to r.ran;
      trim = trim-stands frame t trim (accepted-trim s r.payload r.to r.ran);
    })

-- the record of block k of object j
pub block_record : (o : Outcome) → ValidRead o → (j k : ℕ) → j < o.answer.programme.objects → k < o.answer.timing.blocks
    → record_valid (class_of (shares o.answer.programme) j) (record_at o.buffer (record_stride * (j * o.answer.timing.blocks + k))) ≡ true
block_record o v j k l m = rw (digits_div j m) at (v.records (j * o.answer.timing.blocks + k) (digits_lt l m))
