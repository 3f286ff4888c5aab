-- Tests that hold, as facts: both halves of one, a value in its range.
use Rattle.std.specs.Prelude.{◌≡◌, refl, Bool, true, false, ℕ, zero, suc, ◌≤◌, ◌<◌, leb, eqb}
use Rattle.std.proofs.Common.{sym, arith, leb-true, eqb-true, le-leb, eq-eqb}
use Rattle.std.proofs.lemmas.Bool.{false≢true}
use Rattle.bits.specs.Language.{pick, between}
use Rattle.bits.specs.Steps.{by_order}
use Rattle.form.specs.Valid.{◌and◌, between_if}

-- both halves of a test, and both together
pub halves : (a b : Bool) → (a and b) ≡ true → (a ≡ true) × (b ≡ true)
halves true b h = (refl, h)
halves false b h = absurd (false≢true h)

pub whole : (a b : Bool) → a ≡ true → b ≡ true → (a and b) ≡ true
whole true b f g = g
whole false b f g = absurd (false≢true f)

-- a test that holds or does not
pub by-test : {X : Type 0} (t : Bool) → (t ≡ true → X) → (t ≡ false → X) → X
by-test true f g = f refl
by-test false f g = g refl

-- two numbers that are equal or not
pub by_eq : {X : Type 0} (m n : ℕ) → (m ≡ n → X) → ((m ≡ n → ⊥) → X) → X
by_eq m n f g = by_order m n (λ h. by_order n m (λ j. f (omega arith)) (λ j. g (λ e. omega arith))) (λ h. g (λ e. omega arith))

-- a flag
pub by_flag : {X : Type 0} (n : ℕ) → n ≤ 1 → (n ≡ 0 → X) → (n ≡ 1 → X) → X
by_flag n h f g = by_order n 0 (λ l. f (omega arith)) (λ l. g (omega arith))

-- a value from low to high where it is carried; elsewhere the default
pub record Ranged (carried : Bool) (low high default v : ℕ) : Type 0 where
  pub on : carried ≡ true → (low ≤ v) × (v ≤ high)
  pub off : carried ≡ false → v ≡ default

pub or-default : (carried : Bool) (low high default v : ℕ) → pick carried (between low high v) (eqb v default) ≡ true → Ranged carried low high default v
or-default true low high default v h =
    let x = halves (leb low v) (leb v high) h in
    record { on = λ q. (leb-true low v x.0, leb-true v high x.1); off = λ q. absurd (false≢true (sym q)) }
or-default false low high default v h = record { on = λ q. absurd (false≢true q); off = λ q. eqb-true v default h }

pub in-range : (carried : Bool) (low high v : ℕ) → between_if carried low high v ≡ true → Ranged carried low high 0 v
unfolding between_if
in-range carried low high v h = or-default carried low high 0 v h

pub always-ranged : (low high v : ℕ) → between low high v ≡ true → Ranged true low high 0 v
always-ranged low high v h = or-default true low high 0 v h

pub always : (low high v : ℕ) → low ≤ v → v ≤ high → between low high v ≡ true
always low high v l h = whole (leb low v) (leb v high) (le-leb low v l) (le-leb v high h)

pub is-ranged : (carried : Bool) (low high v : ℕ) → (carried ≡ true → low ≤ v) → (carried ≡ true → v ≤ high) → (carried ≡ false → v ≡ 0)
    → between_if carried low high v ≡ true
unfolding between_if
is-ranged true low high v f g h = always low high v (f refl) (g refl)
is-ranged false low high v f g h = eq-eqb v 0 (h refl)

-- a test that is computed for every number below n
abbrev pub all_below : ℕ → (ℕ → Bool) → Bool
all_below zero f = true
all_below (suc n) f = f n and all_below n f

pub below : (n : ℕ) (f : ℕ → Bool) → all_below n f ≡ true → (k : ℕ) → k < n → f k ≡ true
below zero f h k l = absurd (omega arith)
below (suc n) f h k l =
    let x = halves (f n) (all_below n f) h in
    by_eq k n (λ e. rw e x.0) (λ e. below n f x.1 k (omega arith))
