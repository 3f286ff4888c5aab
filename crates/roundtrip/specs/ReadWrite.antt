-- What a read has given can be written with the same frame, as the host calls it, and reads back the same.
use Rattle.std.specs.Prelude.{◌≡◌, false, length}
use Rattle.std.proofs.Common.{sym, ◌∙◌, subst}
use Rattle.std.proofs.Math.Path.{ap}
use mathlib.Core.List.{List, ◌++◌}
use Prim.Native.Nat.{ℕ, ◌+◌, ◌≤◌}
use native.Mathlib.Omega.{arith}
use Rattle.std.proofs.Math.ListN.{drop, length-append}
use Rattle.bits.specs.Language.{ok}
use Rattle.bits.specs.Steps.{value}
use Rattle.oamd.specs.Tables.{most_bytes}
use Rattle.oamd.specs.Programme.{has_reserved}
use Rattle.oamd.specs.Trim.{trim_bytes_of, trim_needed}
use Rattle.oamd.specs.Record.{onto}
use Rattle.oamd.specs.Time.{time_of, time_bytes_of}
use Rattle.oamd.specs.Lengths.{length-timed, length-trim}
use Rattle.oamd.specs.Payload.{Payload, Tables, tables}
use Rattle.oamd.specs.Answer.{Outcome, laid_records, needed, reading}
use Rattle.demands.specs.Terms.{parsed}
use Rattle.demands.specs.Lemmas.Reading.{Read, read_of}
use Rattle.form.specs.Valid.{record_count, Valid}
use Rattle.form.specs.Form.{form}
use Rattle.record.specs.Bytes.{records_at}
use Rattle.form.specs.Answer.{tables_of, written_to, writing}
use Rattle.roundtrip.specs.Lemmas.TrimBack.{TrimFacts, trim-facts}
use Rattle.record.specs.Laws.{records-again, time-of}
use Rattle.roundtrip.specs.Lemmas.TableBytes.{trim-again}
use Rattle.roundtrip.specs.WriteRead.{writes-valid}
use Rattle.roundtrip.specs.Accepted.{accepted-valid}
use Rattle.roundtrip.specs.Promises.{tables_given, AllOnTime}

-- ---- the tables of an accepted read, from its answer and its buffers

module _ (frame : ℕ) (t : Tables) (buffer trim : List ℕ) (v : Valid t) where
  x-facts : TrimFacts t.programme.objects t.trim
  x-facts = trim-facts t.programme.objects t.trim v.trim

  tables-again : tables_of t.programme t.timing (onto (laid_records frame t) buffer) (onto (trim_bytes_of t.trim) trim) ≡ t
  unfolding onto
  tables-again =
      let laid : List ℕ = laid_records frame t in
      let tail : List ℕ = drop (length laid) buffer in
      let e : records_at (laid ++ tail) (record_count t.programme t.timing) 0 ≡ t.records =
      ap (λ (n : ℕ). records_at (laid ++ tail) n 0) (sym v.count) ∙ records-again (time_of frame t.timing) 0 t.records tail in
      let f = trim-again t.programme.objects t.trim x-facts.nine x-facts.flags (drop (length (trim_bytes_of t.trim)) trim) in
      λ i. record { programme = t.programme; timing = t.timing; records = e i; trim = f i }

  -- the buffers hold all of them
  enough : needed t ≤ length (onto (laid_records frame t) buffer)
  unfolding onto
  enough =
      omega (
        arith,
        length-append (laid_records frame t) (drop (length (laid_records frame t)) buffer),
        length-timed (time_of frame t.timing) 0 t.records,
        v.count,
      )

  -- and the records are on time
  timed : AllOnTime frame t.programme t.timing (onto (laid_records frame t) buffer)
  unfolding onto
  timed k l =
      let e : 0 + k ≡ k = omega arith in
      time-of (time_of frame t.timing) 0 t.records (drop (length (laid_records frame t)) buffer) k (omega (arith, v.count))
      ∙ ap (λ (i : ℕ). time_bytes_of (time_of frame t.timing i)) e

  trim-enough : trim_needed t.programme.objects ≤ length (onto (trim_bytes_of t.trim) trim)
  unfolding onto
  trim-enough =
      omega (
        arith,
        length-append (trim_bytes_of t.trim) (drop (length (trim_bytes_of t.trim)) trim),
        length-trim t.programme.objects t.trim x-facts.nine x-facts.flags,
      )

-- ---- the statements

-- of every accepted read, if the reserved content flag is clear
module _ (frame : ℕ) (s buffer trim : List ℕ) (accepted : (reading frame s buffer trim).answer.refusal ≡ 0)
    (clear : has_reserved (reading frame s buffer trim).answer.programme.content ≡ false) where
  -- what it rests on
  abbrev r : Read frame s buffer trim
  r = read_of frame s buffer trim accepted

  abbrev given : Tables
  given = tables r.payload.programme r.payload.known

  given-valid : Valid given
  unfolding tables
  given-valid = accepted-valid s r.payload r.to r.ran (rw r.is at clear)

  given-again : tables_given (reading frame s buffer trim) ≡ given
  given-again = ap tables_given r.is ∙ tables-again frame given buffer trim given-valid

  -- they are those of the payload as it was read,
  pub read-tables : (q : Payload) (to : ℕ) → parsed s ≡ ok q to → tables_given (reading frame s buffer trim) ≡ tables q.programme q.known
  read-tables q to h = given-again ∙ ap (λ (x : Payload). tables x.programme x.known) (value (sym r.ran ∙ h))

  -- they are valid,
  pub read-valid : Valid (tables_given (reading frame s buffer trim))
  read-valid = subst Valid (sym given-again) given-valid

  -- their records are on time,
  pub read-timed : AllOnTime frame (reading frame s buffer trim).answer.programme (reading frame s buffer trim).answer.timing (reading frame s buffer trim).buffer
  read-timed = subst (λ (o : Outcome). AllOnTime frame o.answer.programme o.answer.timing o.buffer) (sym r.is) (timed frame given buffer trim given-valid)

  -- the buffers hold all of them,
  pub read-enough : needed (tables_given (reading frame s buffer trim)) ≤ length (reading frame s buffer trim).buffer
  read-enough = subst (λ (o : Outcome). needed (tables_given o) ≤ length o.buffer) (sym r.is) (enough frame given buffer trim given-valid)

  pub read-trim-enough : trim_needed (reading frame s buffer trim).answer.programme.objects ≤ length (reading frame s buffer trim).trim
  read-trim-enough =
      subst (λ (o : Outcome). trim_needed o.answer.programme.objects ≤ length o.trim) (sym r.is) (trim-enough frame given buffer trim given-valid)

  -- and a write of them with the same frame is accepted, where their form fits
  pub read-write : (out : List ℕ) → length (form (tables_given (reading frame s buffer trim))) ≤ length out
      → length (form (tables_given (reading frame s buffer trim))) ≤ most_bytes
      → writing frame (reading frame s buffer trim).answer.programme (reading frame s buffer trim).answer.timing (reading frame s buffer trim).buffer
      (reading frame s buffer trim).trim out ≡ written_to out (form (tables_given (reading frame s buffer trim)))
  read-write out room short = writes-valid frame _ _ _ _ out read-valid read-timed read-enough read-trim-enough room short
