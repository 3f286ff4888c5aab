-- The words that the laws of readers are stated in.
use Rattle.std.specs.Prelude.{◌≡◌, Bool, List, [], ◌∷◌, ◌++◌, ℕ, suc, ◌+◌, ◌-◌, ◌≤◌, ◌<◌, leb, ltb, eqb, length, get_or}
use Rattle.bits.specs.Language.{ok, pick, Bits, slice, P, give, refuse, field, within, ◌>>=◌, run, number}
use Rattle.bits.specs.Writes.{Binary, Spells}

-- ---- the bits that a reader used

-- the m bits of b from at on are the m bits of c from to on
abbrev pub Agree : Bits → ℕ → Bits → ℕ → ℕ → Type 0
Agree b at c to m = (i : ℕ) → i < m → b (at + i) ≡ c (to + i)

-- the bits of b and c below e are the same
abbrev pub Same : Bits → Bits → ℕ → Type 0
Same b c e = (i : ℕ) → i < e → b i ≡ c i

-- Q holds of each number that p itself refuses with, whatever the values that its steps hand on
unfoldable pub Says : {A : Type 0} → P A → (ℕ → Type 0) → Type 0
Says (give a) Q = Unit {0}
Says (refuse r back) Q = Q r
Says (field w f) Q = Unit {0}
Says (within n back p) Q = Says p Q
Says (p >>= k) Q = Says p Q × ((a : _) → Says (k a) Q)

-- What p accepted depends only on the bits that it used: wherever they stand, and wherever the end lies behind them, it gives the same value.
pub record Local {A : Type 0} (p : P A) (b : Bits) (at e : ℕ) (v : A) (to : ℕ) : Type 0 where
  pub used : ℕ
  pub ends : to ≡ at + used
  pub fits : to ≤ e
  pub moved : (c : Bits) (at' e' o' : ℕ) → Agree b at c at' used → at' + used ≤ e' → run p c at' e' o' ≡ ok v (at' + used)

-- the bits of b from at on are those of l
abbrev pub Holds : Bits → ℕ → List ℕ → Type 0
Holds b at l = (i : ℕ) → i < length l → b (at + i) ≡ get_or l i 0

-- the bits from at on, up to before to
abbrev pub taken : Bits → ℕ → ℕ → List ℕ
taken b at to = slice b at (to - at)

-- ---- what a reader gives

-- Q holds of whatever p can give
unfoldable pub Ensures : {A : Type 0} → P A → (A → Type 0) → Type 0
Ensures p Q = Spells p (λ l a. Q a)

-- Q holds of every entry of a list
abbrev pub Every : {A : Type 0} → (A → Type 0) → List A → Type 0
Every Q [] = Unit {0}
Every Q (a ∷ rest) = Q a × Every Q rest

-- what holds of each value of a loop, and of its entry
abbrev pub All : {X A : Type 0} → (X → A → Type 0) → List X → List A → Type 0
All R [] [] = Unit {0}
All R [] (a ∷ vs) = ⊥
All R (x ∷ xs) [] = ⊥
All R (x ∷ xs) (a ∷ vs) = R x a × All R xs vs

-- R holds of each entry of one list, its index and the entry of another
abbrev pub Along : {X Y : Type 0} → (X → ℕ → Y → Type 0) → List X → ℕ → List Y → Type 0
Along R [] i [] = Unit {0}
Along R [] i (y ∷ ys) = ⊥
Along R (x ∷ xs) i [] = ⊥
Along R (x ∷ xs) i (y ∷ ys) = R x i y × Along R xs (suc i) ys

-- wherever the bits l stand before the end, p reads them as v and comes to their end
pub record Writes {A : Type 0} (p : P A) (l : List ℕ) (v : A) : Type 0 where
  pub binary : Binary l
  pub reads : (b : Bits) (at e o : ℕ) → Holds b at l → at + length l ≤ e → run p b at e o ≡ ok v (at + length l)

-- ---- the bits to be written

-- as a test
abbrev pub first? : List ℕ → List ℕ → Bool
first? l m = pick (eqb (length l) (length m)) (leb (number l) (number m)) (ltb (length l) (length m))

-- the bits of each value, by its entry
abbrev pub bits_of_each : {X A : Type 0} → (X → A → List ℕ) → List X → List A → List ℕ
bits_of_each enc [] vs = []
bits_of_each enc (x ∷ xs) [] = []
bits_of_each enc (x ∷ xs) (v ∷ vs) = enc x v ++ bits_of_each enc xs vs
