-- Where reading stands when it comes to a line of a clause. Each clause is a definition with a field to a line, whether the field is sent or not, so the number of a line names a field.
-- A path is the number of a line, counted from 0, then that of a line in the clause which stands there, and so on. A clause that ends in another one, or in what is held to a declared
-- end, goes on counting there.
use Rattle.std.specs.Prelude.{◌≡◌, refl, List, [], ◌∷◌, ◌++◌, ℕ, zero, suc, ◌+◌, replicate}
use Rattle.bits.specs.Language.{Res, ok, no, Bits, P, give, refuse, field, within, ◌>>=◌, run, past_declared}

-- behind a refused step no line is reached, and the refusal's place stands for it
abbrev pub onward : {A : Type 0} → Res A → (A → ℕ → ℕ) → ℕ
onward (ok a to) k = k a to
onward (no r pl m) k = pl

-- the position at which p, on the bits b from at on, with the end e and the refusal o for passing it, comes to the line at a path
unfoldable pub arrival : {A : Type 0} → List ℕ → P A → Bits → ℕ → ℕ → ℕ → ℕ
arrival path (give a) b at e o = at
arrival path (refuse r back) b at e o = at
arrival path (field w f) b at e o = at
arrival path (within n back p) b at e o = arrival path p b at (at + n) past_declared
arrival [] (p >>= k) b at e o = at
arrival (zero ∷ []) (p >>= k) b at e o = at
arrival (zero ∷ (n ∷ path)) (p >>= k) b at e o = arrival (n ∷ path) p b at e o
arrival (suc n ∷ path) (p >>= k) b at e o = onward (run p b at e o) (λ a to. arrival (n ∷ path) (k a) b to e o)

-- the path to entry i of `each` or `for`
abbrev pub entry : ℕ → List ℕ
entry i = replicate i 1 ++ (0 ∷ [])

-- over a line
pub arrival_next : {A B : Type 0} (n : ℕ) (path : List ℕ) (p : P A) (k : A → P B) (b : Bits) (at e o : ℕ) {a : A} {mid : ℕ} → run p b at e o ≡ ok a mid
    → arrival (suc n ∷ path) (p >>= k) b at e o ≡ arrival (n ∷ path) (k a) b mid e o
unfolding arrival
arrival_next n path p k b at e o h = rw h

-- into the clause on a line
pub arrival-into : {A B : Type 0} (n : ℕ) (path : List ℕ) (p : P A) (k : A → P B) (b : Bits) (at e o : ℕ)
    → arrival (0 ∷ n ∷ path) (p >>= k) b at e o ≡ arrival (n ∷ path) p b at e o
unfolding arrival
arrival-into n path p k b at e o = refl

-- to the first line, which is where the clause begins
pub arrival_here : {A B : Type 0} (p : P A) (k : A → P B) (b : Bits) (at e o : ℕ) → arrival (0 ∷ []) (p >>= k) b at e o ≡ at
unfolding arrival
arrival_here p k b at e o = refl

-- what is held to a declared end counts on
pub arrival-within : {A : Type 0} (path : List ℕ) (n back : ℕ) (p : P A) (b : Bits) (at e o : ℕ) → arrival path (within n back p) b at e o ≡ arrival path p b at (at + n) past_declared
unfolding arrival
arrival-within path n back p b at e o = refl
