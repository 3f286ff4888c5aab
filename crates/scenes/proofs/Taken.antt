-- A group that was looked at as if it were sent, and is taken only where it is: u is the definition's test, t the code's own.
use mathlib.Core.Path.{◌≡◌, refl}
use mathlib.Core.Bool.{Bool, true, false, not, ◌&&◌, ◌||◌, false≢true}
use Prim.Native.Nat.{ℕ, ◌+◌, ◌≤◌}
use native.Mathlib.Omega.{arith}
use Rattle.bits.specs.Language.{P, pick, bits, bits_if}
use Rattle.bits.specs.View.{Looks}
use Rattle.bits.proofs.Free.{looks-give}
use Rattle.syntax.specs.Looks.{Pair}
use Rattle.syntax.proofs.Glances.{whichever}

-- ---- by the definition's test

taken_where : {A : Type 0} (p : Bool → P A) {x o off : ℕ} {v none : A} (u : Bool) → (u ≡ true → Looks (p true) x o v off) → Looks (p false) x o none o
    → Looks (p u) x o (pick u v none) (pick u off o)
taken_where p true s n = s refl
taken_where p false s n = n

behind_where : {A : Type 0} (p : Bool → P A) {x o mid off : ℕ} {v none : A} (u : Bool) → Looks (p true) x mid v off → Looks (p false) x o none o
    → Looks (p u) x (pick u mid o) (pick u v none) (pick u off o)
behind_where p true s n = s
behind_where p false s n = n

pair_where : (k : Bool → ℕ → P ℕ) {w n x o v z off : ℕ} (u : Bool) → Pair (bits w) (k true) n x o v z off → Looks (k false 0) x o 0 o
    → Pair (bits_if u w) (k u) n x o (pick u v 0) (pick u z 0) (pick u off o)
pair_where k true s n = s
pair_where k {o = o} false s n = record { mid = o; first = looks-give; second = n; near = omega arith }

-- both tests hold
pub each-good : (a b : Bool) → (a && b) ≡ true → (a ≡ true) × (b ≡ true)
each-good true b e = (refl, e)
each-good false b e = absurd (false≢true e)

good_where : (u : Bool) {g : Bool} → (not u || g) ≡ true → u ≡ true → g ≡ true
good_where true h e = h
good_where false h e = absurd (false≢true e)

-- its value, by one part or by two, or else that of the block before: parts that are not sent, i and j, make no difference
pub value_where : {A B : Type 0} (f : A → B) (a i : A) (before : B) (u : Bool) → pick u (f a) before ≡ pick u (f (pick u a i)) before
value_where f a i before true = refl
value_where f a i before false = refl

pub value_by-two : {A B C : Type 0} (f : A → B → C) (a i : A) (b j : B) (before : C) (u : Bool) → pick u (f a b) before ≡ pick u (f (pick u a i) (pick u b j)) before
value_by-two f a i b j before true = refl
value_by-two f a i b j before false = refl

-- ---- by what the code found

module _ {t u : Bool} (q : t ≡ u) where
  pub near_if : (o n : ℕ) {off to : ℕ} → to ≡ pick t off o → off ≤ o + n → to ≤ o + n
  near_if o n e h = rw e (whichever t h (omega arith))

  -- no reserved code was met in what is sent
  pub good_if : {g : Bool} → (not t || g) ≡ true → u ≡ true → g ≡ true
  good_if h = good_where u (rw q at h)

  -- what is read, and where the next field begins
  pub taken : {A : Type 0} (p : Bool → P A) {x o off to : ℕ} {v none : A} → to ≡ pick t off o → (u ≡ true → Looks (p true) x o v off)
      → Looks (p false) x o none o → Looks (p u) x o (pick u v none) to
  taken p e s n = rw (e, q) (taken_where p u s n)

  -- the same behind what is taken by the same test
  pub taken-behind : {A : Type 0} (p : Bool → P A) {x o mid off to : ℕ} {v none : A} → to ≡ pick t off o → Looks (p true) x mid v off
      → Looks (p false) x o none o → Looks (p u) x (pick t mid o) (pick u v none) to
  taken-behind p e s n = rw (e, q) (behind_where p u s n)

  -- two fields, the second of which may hang on the first
  pub pair-taken : (k : Bool → ℕ → P ℕ) {w n x o v z off to : ℕ} → to ≡ pick t off o → Pair (bits w) (k true) n x o v z off → Looks (k false 0) x o 0 o
      → Pair (bits_if u w) (k u) n x o (pick u v 0) (pick u z 0) to
  pair-taken k e s n = rw (e, q) (pair_where k u s n)

  -- the value of such a pair
  pub pair-valued : {C : Type 0} (f : ℕ → ℕ → C) (before : C) {a b : ℕ} {v r : C} → v ≡ f a b → r ≡ pick t v before
      → r ≡ pick u (f (pick u a 0) (pick u b 0)) before
  pair-valued f before {a} {b} e h = rw (h, q, e) (value_by-two f a 0 b 0 before u)
