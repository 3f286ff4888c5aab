-- What is written, as bits and as bytes, which bits a reader takes for a value, and which of two lists of bits comes first: definitions alone. Their laws
-- stand in Lists, Bytes, Back, Spells and First.
use Rattle.std.specs.Prelude.{◌≡◌, Bool, true, false, List, [], ◌∷◌, ◌++◌, ℕ, zero, suc, ◌+◌, ◌/◌, ◌%◌, ◌^◌, ◌≤◌, ◌<◌, length, get_or}
use Rattle.bits.specs.Language.{Bits, slice, number, P, give, refuse, field, within, ◌>>=◌}

-- ---- bits

-- every entry is 0 or 1
abbrev pub Binary : List ℕ → Type 0
Binary l = (i : ℕ) → get_or l i 0 < 2

-- the bits that a list holds, and 0 behind it
abbrev pub listed : List ℕ → Bits
listed l i = get_or l i 0

-- the w low bits of v, top bit first
unfoldable pub to_bits : ℕ → ℕ → List ℕ
to_bits zero v = []
to_bits (suc w) v = v / 2 ^ w % 2 ∷ to_bits w v

-- bits that are there only if the test holds
abbrev pub only : Bool → List ℕ → List ℕ
only true l = l
only false l = []

-- the bits of each entry of a list, whose indices count from i
unfoldable pub each_bits : {Y : Type 0} → (ℕ → Y → List ℕ) → ℕ → List Y → List ℕ
each_bits l i [] = []
each_bits l i (y ∷ ys) = l i y ++ each_bits l (suc i) ys

-- ---- bytes

-- n bytes of the bits of b from at on, the first bit the top one
unfoldable pub pack : Bits → ℕ → ℕ → List ℕ
pack b at zero = []
pack b at (suc n) = number (slice b at 8) ∷ pack b (at + 8) n

-- the bytes of a list of bits, the last filled up with zeros
unfoldable pub to_bytes : List ℕ → List ℕ
to_bytes l = pack (listed l) 0 ((length l + 7) / 8)

-- ---- the bits that a reader takes

-- Q holds of the bits that p takes, and of what it gives for them
unfoldable pub Spells : {A : Type 0} → P A → (List ℕ → A → Type 0) → Type 0
Spells (give a) Q = Q [] a
Spells (refuse r back) Q = Unit {0}
Spells (field w f) Q = (l : List ℕ) → length l ≡ w → Binary l → Q l (f l)
Spells (within n back p) Q = Spells p (λ l a. (rest : List ℕ) → length l + length rest ≡ n → Binary rest → Q (l ++ rest) a)
Spells (p >>= k) Q = Spells p (λ l a. Spells (k a) (λ m v. Q (l ++ m) v))

-- l comes before m, or is as good: it has fewer bits, or of equal length no larger number
pub record First (l m : List ℕ) : Type 0 where
  pub fewer : length l ≤ length m
  pub smaller : length l ≡ length m → number l ≤ number m
