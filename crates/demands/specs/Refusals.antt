-- Beyond the demand: more data behind a refused payload changes no refusal but that of ending early.
use Rattle.std.specs.Prelude.{◌≡◌, List, ◌++◌, ℕ, ◌≤◌, length}
use Rattle.std.proofs.Common.{sym, ◌∙◌, arith}
use Rattle.bits.specs.declared.Refusal.TheVariants.{Version, Room}
use Rattle.bits.specs.Refusals.{number_of}
use Rattle.oamd.specs.Tables.{most_bytes}
use Rattle.oamd.specs.Answer.{reading}
use Rattle.demands.specs.Lemmas.Reading.{Case, long, stopped, full, read, case, reading_ok, reading_no, parsed-append, parsed-stays, refusal-of}

-- A refusal from 3 to 9 is the same, place and all, with any bytes behind the payload, up to the length limit.
pub refused-still : (frame : ℕ) (s t buffer trim : List ℕ) → number_of Version ≤ (reading frame s buffer trim).answer.refusal
    → (reading frame s buffer trim).answer.refusal ≤ number_of Room → length (s ++ t) ≤ most_bytes → reading frame (s ++ t) buffer trim ≡ reading frame s buffer trim
refused-still frame s t buffer trim low high short = go (case frame s buffer trim)
  where
    go : Case frame s buffer trim → reading frame (s ++ t) buffer trim ≡ reading frame s buffer trim
    go (long l e) = absurd (omega (arith, refusal-of e))
    go (stopped r pl m l h two eight e) =
        let n = refusal-of e in
        reading_no frame (s ++ t) buffer trim short (parsed-stays s t h (λ z. omega arith)) ∙ sym e
    go (full q to pl l h x e) = reading_ok frame (s ++ t) buffer trim short (parsed-append s t h) ∙ sym (reading_ok frame s buffer trim l h)
    go (read q to l h f g e) = reading_ok frame (s ++ t) buffer trim short (parsed-append s t h) ∙ sym (reading_ok frame s buffer trim l h)
