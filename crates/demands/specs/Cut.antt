-- Demand 3, cut payloads: less data never turns one set of tables into another.
use Rattle.std.specs.Prelude.{◌≡◌, refl, List, ◌⊎◌, ℕ, ◌*◌, ◌≤◌, length, take}
use Rattle.std.proofs.Common.{sym, ◌∙◌, inl, inr, arith, length-take}
use Rattle.bits.specs.declared.Refusal.TheVariants.{EndsEarly}
use Rattle.bits.specs.Refusals.{number_of}
use Rattle.bits.specs.Language.{bit, past_payload}
use Rattle.bits.specs.Steps.{by_order}
use Rattle.bits.specs.Laws.{still, cut}
use Rattle.oamd.specs.Payload.{object_audio_metadata_payload}
use Rattle.oamd.specs.Answer.{refused, reading}
use Rattle.demands.specs.Lemmas.Narrow.{some-missing}
use Rattle.demands.specs.Lemmas.Reading.{reading_ok, reading_no, read_of, bit-take}

-- Cut off behind any byte, an accepted payload has the same answer and the same buffers, or is refused as ending early, with one missing bit or more:
-- nothing else.
pub cut_short : (frame : ℕ) (s buffer trim : List ℕ) (n : ℕ) → (reading frame s buffer trim).answer.refusal ≡ 0
    → (reading frame (take n s) buffer trim ≡ reading frame s buffer trim)
    ⊎ ((place missing : ℕ) × (1 ≤ missing) × (reading frame (take n s) buffer trim ≡ refused buffer trim (number_of EndsEarly) place missing))
cut_short frame s buffer trim n accepted =
    let r = read_of frame s buffer trim accepted in
    let p = object_audio_metadata_payload in
    let less = length-take n s in
    let end : 0 ≤ 8 * length s = omega arith in
    let short = r.short in
    by_order r.to (8 * length (take n s))
    (λ in-it.
    inl (reading_ok frame (take n s) buffer trim (omega arith)
    (still p (bit s) 0 (8 * length s) past_payload r.ran end (bit (take n s)) (8 * length (take n s)) past_payload
    (λ i below. bit-take n s i (omega arith)) in-it) ∙ sym (reading_ok frame s buffer trim short r.ran)))
    (λ past.
    let c = cut p (bit s) 0 (8 * length s) past_payload r.ran end (bit (take n s)) (8 * length (take n s)) past_payload (bit-take n s) (omega arith) past in
    inr (c.0, _, some-missing (take n s) c.2 refl, reading_no frame (take n s) buffer trim (omega arith) c.2))
