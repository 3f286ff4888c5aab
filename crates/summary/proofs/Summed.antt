-- Sums as the library says them, as `total` says them. Assumes nothing.
use Rattle.std.specs.Prelude.{◌≡◌, Bool, true, false, List, [], ◌∷◌, ℕ, sum_by, cond}
use Rattle.std.proofs.Common.{◌∙◌, arith, refl}
use Rattle.std.proofs.lemmas.List.Sums.{sum_by-cons}
use Rattle.bits.specs.Language.{as_flag}
use Rattle.summary.specs.Summary.{total}

pub sum-total : {A : Type 0} (f g : A → ℕ) → ((x : A) → f x ≡ g x) → (xs : List A) → sum_by f xs ≡ total g xs
unfolding total
sum-total f g e [] = refl
sum-total f g e (x ∷ xs) = sum_by-cons f x xs ∙ omega (arith, e x, sum-total f g e xs)

-- a test that counts as 1 is a flag
pub counts : (b : Bool) → cond b 1 0 ≡ as_flag b
counts true = refl
counts false = refl
