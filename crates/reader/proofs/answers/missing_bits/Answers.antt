use Rattle.std.proofs.Common.{arith, le-leb, ne_eqb, sym, leb, ℕ, ◌<◌, ◌∙◌, ◌≡◌}
use Rattle.std.proofs.lemmas.Bool.{lt-leb}
use Rattle.std.specs.Prelude.{Result, Ok, Err, OkIff}
use Rattle.std.specs.Result.{result_unwrap_or}
use Rattle.bits.specs.declared.Refusal.TheVariants.{EndsEarly}
use Rattle.bits.specs.Language.{pick}
use Rattle.bits.specs.Refusals.{number_of}
use Rattle.oamd.specs.Answer.{missing_of}
use Rattle.reader.proofs.answers.missing_bits.Goals as goal

-- a number that fits 32 bits, or the greatest that does
capped : {E : Type 0} (r : Result ℕ E) (n : ℕ) → OkIff r (n < 4294967296) n → result_unwrap_or r 4294967295 ≡ pick (leb n 4294967295) n 4294967295
capped (Ok m) n h = rw (le-leb n 4294967295 (omega (arith, h.0))) h.1
capped (Err e) n h = rw (lt-leb n 4294967295 (omega (arith, h)))

pub returns-then-refusal-number : goal.returns-then-refusal-number
unfolding missing_of
returns-then-refusal-number c =
    rw (ne_eqb _ (number_of EndsEarly) (λ h. c.if-refusal-number.true (h ∙ sym c.number.ensures.0)))

pub returns : goal.returns
unfolding missing_of
returns c =
    rw (c.if-refusal-number.false ∙ c.number.ensures.0, c.unwrap_or.ensures) (capped _ _ c.try_from.ensures)
