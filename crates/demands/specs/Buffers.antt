-- What a read gives depends on the lengths of the lent buffers alone, and not on the bytes in them.
use Rattle.std.specs.Prelude.{◌≡◌, refl, List, ◌++◌, ℕ, ◌*◌, ◌≤◌, length, drop}
use Rattle.std.proofs.Common.{sym, ap, ap₂, ◌∙◌, arith, length-append, drop_at}
use Rattle.bits.specs.declared.Refusal.TheVariants.{TooLong, Room}
use Rattle.bits.specs.Refusals.{number_of}
use Rattle.bits.specs.Language.{ok, bit, past_payload}
use Rattle.oamd.specs.declared.ReadAnswer.{ReadAnswer}
use Rattle.oamd.specs.Record.{onto}
use Rattle.oamd.specs.Trim.{trim_bytes_of}
use Rattle.oamd.specs.Lengths.{length-trim}
use Rattle.oamd.specs.Payload.{Payload, tables}
use Rattle.oamd.specs.Answer.{Outcome, missing_of, refused, accepted_with, laid_records, needed, reading}
use Rattle.demands.specs.Terms.{parsed, tables_of}
use Rattle.demands.specs.Conditions.{Short, records-short, trim-short}
use Rattle.demands.specs.Lemmas.Reading.{Case, long, stopped, full, read, case, reading_ok, reading_no, reading_long, trim_room, housed_fits, housed-lacks}
use Rattle.demands.specs.Lemmas.Records.{length-needed, trim-sized}

-- Two reads, into a buffer and a trim buffer each: both are refused with the same number, place and missing bits, and all buffers are as they came; or both have the same
-- answer, the same record bytes on the fronts of the buffers, the same bytes of a trim table on those of the trim buffers, and the others as they came.
pub data Alike (buffer trim buffer' trim' : List ℕ) (o o' : Outcome) : Type 0 where
  both-refused : (number place missing : ℕ) → o ≡ refused buffer trim number place missing → o' ≡ refused buffer' trim' number place missing
      → Alike buffer trim buffer' trim' o o'
  both-accepted : (answer : ReadAnswer) (records table : List ℕ)
      → o ≡ record { answer = answer; buffer = onto records buffer; trim = onto table trim }
      → o' ≡ record { answer = answer; buffer = onto records buffer'; trim = onto table trim' } → Alike buffer trim buffer' trim' o o'

module _ (frame : ℕ) (s buffer trim buffer' trim' : List ℕ) (Long-as : length buffer' ≡ length buffer) (trim-long-as : length trim' ≡ length trim) where
  as_short : (records table place : ℕ) → Short buffer trim records table place → Short buffer' trim' records table place
  as_short records table place (records-short l e) = records-short (omega arith) e
  as_short records table place (trim-short l m e) = trim-short (omega arith) (omega arith) e

  -- Two reads of the same payload with the same frame, into buffers as long.
  pub by_lengths : Alike buffer trim buffer' trim' (reading frame s buffer trim) (reading frame s buffer' trim')
  by_lengths = go (case frame s buffer trim)
    where
      go : Case frame s buffer trim → Alike buffer trim buffer' trim' (reading frame s buffer trim) (reading frame s buffer' trim')
      go (long l e) = both-refused (number_of TooLong) (length s) 0 e (reading_long frame s buffer' trim' l)
      go (stopped r pl m l h two eight e) = both-refused r pl (missing_of r m) e (reading_no frame s buffer' trim' l h)
      go (full q to pl l h x e) =
          both-refused (number_of Room) pl 0 e
          (reading_ok frame s buffer' trim' l h ∙ housed-lacks frame buffer' trim' (tables_of q) q.unknown pl (as_short _ _ pl x))
      go (read q to l h f g e) =
          both-accepted (accepted_with (tables_of q).programme (tables_of q).timing q.unknown) (laid_records frame (tables_of q)) (trim_bytes_of (tables_of q).trim) e
          (reading_ok frame s buffer' trim' l h ∙ housed_fits frame buffer' trim' (tables_of q) q.unknown (omega arith) (omega arith))

  -- So they have the same answer.
  pub same_answer : (reading frame s buffer' trim').answer ≡ (reading frame s buffer trim).answer
  same_answer = go by_lengths
    where
      go : Alike buffer trim buffer' trim' (reading frame s buffer trim) (reading frame s buffer' trim') → (reading frame s buffer' trim').answer ≡ (reading frame s buffer trim).answer
      go (both-refused number place missing e e') = ap (λ (o : Outcome). o.answer) e' ∙ sym (ap (λ (o : Outcome). o.answer) e)
      go (both-accepted answer records table e e') = ap (λ (o : Outcome). o.answer) e' ∙ sym (ap (λ (o : Outcome). o.answer) e)

-- ---- the same buffers once more

onto-twice : (front buffer : List ℕ) → onto front (onto front buffer) ≡ onto front buffer
unfolding onto
onto-twice front buffer = ap (λ (l : List ℕ). front ++ l) (drop_at front (drop (length front) buffer) (length front) refl)

onto_long : (front buffer : List ℕ) → length front ≤ length (onto front buffer)
unfolding onto
onto_long front buffer = omega (arith, length-append front (drop (length front) buffer))

filled : (frame : ℕ) (s buffer trim : List ℕ) (q : Payload) (to : ℕ) → parsed s ≡ ok q to
    → (needed (tables_of q) ≤ length (onto (laid_records frame (tables_of q)) buffer))
    × (trim_room (tables_of q) ≤ length (onto (trim_bytes_of (tables_of q).trim) trim))
unfolding tables
filled frame s buffer trim q to h =
    let n = length-needed frame (bit s) 0 (8 * length s) past_payload h in
    let l = onto_long (laid_records frame (tables_of q)) buffer in
    let x = trim-sized (bit s) 0 (8 * length s) past_payload h in
    let m = length-trim q.programme.objects (tables_of q).trim x.0 x.1 in
    let k = onto_long (trim_bytes_of (tables_of q).trim) trim in
    (omega arith, omega arith)

-- Read again into the buffers that a read has just filled, a payload gives the same answer and the same buffers.
pub again : (frame : ℕ) (s buffer trim : List ℕ) → reading frame s (reading frame s buffer trim).buffer (reading frame s buffer trim).trim ≡ reading frame s buffer trim
again frame s buffer trim = go (case frame s buffer trim)
  where
    into : {o : Outcome} → reading frame s buffer trim ≡ o → reading frame s (reading frame s buffer trim).buffer (reading frame s buffer trim).trim ≡ reading frame s o.buffer o.trim
    into e = ap (λ (o : Outcome). reading frame s o.buffer o.trim) e

    go : Case frame s buffer trim → reading frame s (reading frame s buffer trim).buffer (reading frame s buffer trim).trim ≡ reading frame s buffer trim
    go (long l e) = into e
    go (stopped r pl m l h two eight e) = into e
    go (full q to pl l h x e) = into e
    go (read q to l h f g e) =
        let t = tables_of q in
        let b : List ℕ = onto (laid_records frame t) buffer in
        let x : List ℕ = onto (trim_bytes_of t.trim) trim in
        let room = filled frame s buffer trim q to h in
        into e ∙ reading_ok frame s b x l h ∙ housed_fits frame b x t q.unknown room.0 room.1
        ∙ ap₂ (λ (y z : List ℕ). record { answer = accepted_with t.programme t.timing q.unknown; buffer = y; trim = z })
        (onto-twice (laid_records frame t) buffer) (onto-twice (trim_bytes_of t.trim) trim) ∙ sym e
