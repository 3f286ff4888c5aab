-- Demand 3, appended bytes: what follows where both are accepted.
use Rattle.std.specs.Prelude.{◌≡◌, List, ◌++◌, ℕ}
use Rattle.oamd.specs.Answer.{reading}
use Rattle.demands.specs.Appended.{appended}
use Rattle.demands.specs.Lemmas.Reading.{read_of}

-- So where both are accepted, the payload and the same with more data behind it, their tables are the same.
pub never-others : (frame : ℕ) (s t buffer trim : List ℕ) → (reading frame s buffer trim).answer.refusal ≡ 0 → (reading frame (s ++ t) buffer trim).answer.refusal ≡ 0
    → reading frame (s ++ t) buffer trim ≡ reading frame s buffer trim
never-others frame s t buffer trim accepted accepted' = appended frame s t buffer trim accepted (read_of frame (s ++ t) buffer trim accepted').short
