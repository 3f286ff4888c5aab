-- What a reading comes to: the steps of a reader that it reaches, in the order of reading, and the step that stops it.
use Rattle.std.specs.Prelude.{◌≡◌, List, ℕ, ◌+◌, ◌-◌, ◌≤◌, ◌<◌}
use Rattle.bits.specs.Language.{ok, Bits, P, give, refuse, field, within, ◌>>=◌, run, past_declared}

-- The reader q at the position to, held to the end e with the refusal o for passing it, is reached by a reader that is q itself; or inside an element that
-- fits; or in the first of two steps; or in the second, where the first has been read.
pub data Reached (b : Bits) {B : Type 0} (q : P B) (to e o : ℕ) : (A : Type 0) → P A → ℕ → ℕ → ℕ → Type 1 where
  here : Reached b q to e o B q to e o
  inside : {A : Type 0} {n back : ℕ} {p : P A} {at end over : ℕ} → at + n ≤ end → Reached b q to e o A p at (at + n) past_declared
      → Reached b q to e o A (within n back p) at end over
  first : {A C : Type 0} {p : P A} {k : A → P C} {at end over : ℕ} → Reached b q to e o A p at end over → Reached b q to e o C (p >>= k) at end over
  behind : {A C : Type 0} {p : P A} {k : A → P C} {at end over mid : ℕ} {a : A} → run p b at end over ≡ ok a mid
      → Reached b q to e o C (k a) mid end over → Reached b q to e o C (p >>= k) at end over

-- Reading p on the bits b from at on, held to the end e with the refusal o, comes to the reader q at the position at', held to the end e' with the refusal
-- o'. Whatever stands before q has been read.
abbrev pub Comes : {A B : Type 0} → P A → Bits → ℕ → ℕ → ℕ → P B → ℕ → ℕ → ℕ → Type 1
Comes {A} p b at e o q at' e' o' = Reached b q at' e' o' A p at e o

-- A step that stops there, held to the end e with the refusal o, and its number, its place and the bits that are missing: a field that passes the end; a
-- declared end that passes it; a refusal of the reader's own.
pub data Stop (at e o : ℕ) : (A : Type 0) → P A → ℕ → ℕ → ℕ → Type 1 where
  field-passes : {A : Type 0} {w : ℕ} {f : List ℕ → A} → e < at + w → Stop at e o A (field w f) o at (at + w - e)
  size-passes : {A : Type 0} {n back : ℕ} {p : P A} → e < at + n → Stop at e o A (within n back p) o (at - back) (at + n - e)
  refuses : {A : Type 0} {r back : ℕ} → Stop at e o A (refuse r back) r (at - back) 0

-- Reading p comes to a step that stops, with the number r, the place pl and m missing bits.
pub record Stops {A : Type 0} (p : P A) (b : Bits) (at e o r pl m : ℕ) : Type 1 where
  pub Value : Type 0
  pub step : P Value
  pub to : ℕ
  pub end : ℕ
  pub over : ℕ
  pub comes : Comes p b at e o step to end over
  pub stop : Stop to end over Value step r pl m

-- Outside the readers that M marks, p has no declared end, and it refuses with numbers of which Q holds.
pub data Plain (M : (A : Type 0) → P A → Type 1) (Q : ℕ → Type 0) : (A : Type 0) → P A → Type 1 where
  marked : {A : Type 0} {p : P A} → M A p → Plain M Q A p
  giving : {A : Type 0} {a : A} → Plain M Q A (give a)
  refusing : {A : Type 0} {r back : ℕ} → Q r → Plain M Q A (refuse r back)
  reads : {A : Type 0} {w : ℕ} {f : List ℕ → A} → Plain M Q A (field w f)
  both : {A C : Type 0} {p : P A} {k : A → P C} → Plain M Q A p → ((a : A) → Plain M Q C (k a)) → Plain M Q C (p >>= k)
