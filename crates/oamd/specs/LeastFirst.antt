-- Numbers as bytes, the least first, and back.
use Rattle.std.specs.Prelude.{List, [], ◌∷◌, ℕ, zero, suc, ◌+◌, ◌*◌, ◌/◌, ◌%◌, get_or}

-- the n low bytes of v
unfoldable pub least_first : ℕ → ℕ → List ℕ
least_first zero v = []
least_first (suc n) v = v % 256 ∷ least_first n (v / 256)

-- the number of the n bytes from at on
unfoldable pub least_at : ℕ → List ℕ → ℕ → ℕ
least_at zero s at = 0
least_at (suc n) s at = get_or s at 0 + 256 * least_at n s (suc at)
