-- Demand 3, appended bytes: more data behind an accepted payload never turns its tables into others.
use Rattle.std.specs.Prelude.{◌≡◌, List, ◌++◌, ℕ, ◌≤◌, length}
use Rattle.std.proofs.Common.{sym, ◌∙◌, arith}
use Rattle.oamd.specs.Tables.{most_bytes}
use Rattle.oamd.specs.Answer.{reading}
use Rattle.demands.specs.Lemmas.Reading.{read_of, reading_ok, parsed-append}

-- With any bytes behind it, up to the length limit, an accepted payload has the same answer (the count of unknown elements too) and the same buffers.
pub appended : (frame : ℕ) (s t buffer trim : List ℕ) → (reading frame s buffer trim).answer.refusal ≡ 0 → length (s ++ t) ≤ most_bytes
    → reading frame (s ++ t) buffer trim ≡ reading frame s buffer trim
appended frame s t buffer trim accepted short =
    let r = read_of frame s buffer trim accepted in
    reading_ok frame (s ++ t) buffer trim (omega arith) (parsed-append s t r.ran) ∙ sym (reading_ok frame s buffer trim r.short r.ran)
