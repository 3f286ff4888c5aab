-- The bits that are missing: with refusal 2 at its place, and with no other answer.
use Rattle.std.specs.Prelude.{◌≡◌, List, ◌++◌, ◌↔◌, ℕ, ◌-◌, ◌*◌, ◌≤◌, ◌<◌, length}
use Rattle.std.proofs.Common.{sym, ap, ◌∙◌, subst, ⊎_elim, arith}
use Rattle.bits.specs.declared.Refusal.TheVariants.{EndsEarly}
use Rattle.bits.specs.Refusals.{number_of}
use Rattle.bits.specs.Language.{no}
use Rattle.oamd.specs.Tables.{most_bytes}
use Rattle.oamd.specs.Answer.{Outcome, refused, reading}
use Rattle.demands.specs.Terms.{parsed}
use Rattle.demands.specs.Answers.{answers, refused_when}
use Rattle.demands.specs.Lemmas.Reading.{Case, long, stopped, full, read, case, reading_no, refusal-of}
use Rattle.demands.specs.Lemmas.Missing.{parsed-fewer}
use Rattle.demands.specs.Lemmas.Narrow.{parsed_most, missing_all, missing-few}

-- Refusal 2 has one missing bit or more,
pub missing_some : (frame : ℕ) (s buffer trim : List ℕ) → (reading frame s buffer trim).answer.refusal ≡ number_of EndsEarly → 1 ≤ (reading frame s buffer trim).answer.missing
missing_some frame s buffer trim two =
    ⊎_elim (λ x. let z = x.refusal in absurd (omega arith))
    (λ x.
    let least = x.some (sym (refusal-of x.outcome) ∙ two) in
    subst (λ (n : ℕ). 1 ≤ n) (sym (ap (λ (o : Outcome). o.answer.missing) x.outcome)) least)
    (answers frame s buffer trim)

-- and exactly the other answers have none.
pub missing_when : (frame : ℕ) (s buffer trim : List ℕ)
    → ((reading frame s buffer trim).answer.missing ≡ 0) ↔ ((reading frame s buffer trim).answer.refusal ≡ number_of EndsEarly → ⊥)
missing_when frame s buffer trim = (
  (λ z two. let least = missing_some frame s buffer trim two in omega arith),
  (λ other.
      ⊎_elim (λ x. x.missing)
      (λ x. ap (λ (o : Outcome). o.answer.missing) x.outcome ∙ x.none (λ z. other (refusal-of x.outcome ∙ z)))
      (answers frame s buffer trim)),
)

-- There are never more than an element of five groups F can lack, so what is answered is exactly what the reader of payloads lacks, and 32 bits hold it.
pub missing-exact : (frame : ℕ) (s buffer trim : List ℕ) (place missing : ℕ) → reading frame s buffer trim ≡ refused buffer trim (number_of EndsEarly) place missing
    → (parsed s ≡ no (number_of EndsEarly) place missing) × (missing ≤ 8947840)
missing-exact frame s buffer trim place missing h =
    let x = (refused_when frame s buffer trim (number_of EndsEarly) place missing (omega arith) (omega arith)).0 h in
    let is = subst (λ (m : ℕ). parsed s ≡ no (number_of EndsEarly) place m) (sym (x.3 ∙ missing_all s x.2)) x.2 in
    (is, parsed_most s is)

pub missing_most : (frame : ℕ) (s buffer trim : List ℕ) → (reading frame s buffer trim).answer.missing ≤ 8947840
missing_most frame s buffer trim = go (case frame s buffer trim)
  where
    go : Case frame s buffer trim → (reading frame s buffer trim).answer.missing ≤ 8947840
    go (long l e) = rw e (omega arith)
    go (stopped r pl m l h two eight e) = rw e (missing-few s h)
    go (full q to pl l h x e) = rw e (omega arith)
    go (read q to l h f g e) = rw e (omega arith)

-- What the number means: with more bytes behind the payload, but too few, it ends early at the same place, and eight bits fewer are missing for each byte.
pub fewer-missing : (frame : ℕ) (s t buffer trim : List ℕ) (place missing : ℕ) → reading frame s buffer trim ≡ refused buffer trim (number_of EndsEarly) place missing
    → 8 * length t < missing → length (s ++ t) ≤ most_bytes
    → reading frame (s ++ t) buffer trim ≡ refused buffer trim (number_of EndsEarly) place (missing - 8 * length t)
fewer-missing frame s t buffer trim place missing h few short =
    let x = parsed-fewer s t (missing-exact frame s buffer trim place missing h).0 few in
    reading_no frame (s ++ t) buffer trim short x ∙ ap (refused buffer trim (number_of EndsEarly) place) (missing_all (s ++ t) x)
