-- What a branch of the code tells, as the value of the test that the definition makes there: `search tests` goes by it to what the definition gives.
-- Assumes nothing.
use mathlib.Core.Path.{◌≡◌}
use mathlib.Core.Bool.{Bool, true, false}
use Prim.Native.Nat.{ℕ, ◌-◌, ◌<◌, ◌≤◌}
use native.Mathlib.Omega.{arith}
use borrow.Author.Tests.{eq-eqb, ne_eqb, lt-ltb, le-ltb}
use borrow.Author.Rules.{rules}
use Rattle.bits.specs.Language.{pick}

-- the definition's test t is the code's own, u
module _ {A : Type 0} (t u : Bool) (a b r : A) where
  pub chosen : u ≡ t → u ≡ true → r ≡ a → r ≡ pick t a b
  chosen q h e = rw (← q, h) e

  pub passed : u ≡ t → u ≡ false → r ≡ b → r ≡ pick t a b
  passed q h e = rw (← q, h) e

-- what holds of both that a test picks from
pub within : (t : Bool) {a b n : ℕ} → a ≤ n → b ≤ n → pick t a b ≤ n
within true p q = p
within false p q = q

-- a difference that the code gives as 0
pub none_left : (a b : ℕ) → a < b → a - b ≡ 0
none_left a b h = omega arith

pub ruleset tests = (eq-eqb, ne_eqb, lt-ltb, le-ltb, none_left, rules)
