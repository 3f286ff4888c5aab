-- A call by its lists: refused, or summed up.
use Rattle.std.specs.Prelude.{◌≡◌, List, ℕ, ◌≤◌, ◌<◌, length}
use Rattle.std.proofs.Math.Path.{refl}
use borrow.Author.Tests.{le-leb, lt-leb, eq-eqb, ne_eqb}
use Rattle.bits.specs.declared.Refusal.TheVariants.{Lists, Many}
use Rattle.bits.specs.Refusals.{number_of}
use Rattle.summary.specs.Summary.{most_entries, outcomes, summary_of, refused_summary, summing}

module _ (store starts lengths : List ℕ) where
  pub unequal : (length lengths ≡ length starts → ⊥) → summing store starts lengths ≡ refused_summary (number_of Lists) (length starts)
  unfolding summing
  unequal h = rw (ne_eqb (length lengths) (length starts) h) refl

  pub too_many : length lengths ≡ length starts → most_entries < length starts → summing store starts lengths ≡ refused_summary (number_of Many) (length starts)
  unfolding summing
  too_many e h = rw (eq-eqb (length lengths) (length starts) e, lt-leb (length starts) most_entries h) refl

  pub summed-up : length lengths ≡ length starts → length starts ≤ most_entries → summing store starts lengths ≡ summary_of (outcomes store starts lengths)
  unfolding summing
  summed-up e h = rw (eq-eqb (length lengths) (length starts) e, le-leb (length starts) most_entries h) refl
