-- Fields of which values are reserved: what they hold when they were read, which bits they take, and that other values are read back.
use Rattle.std.specs.Prelude.{◌≡◌, Bool, true, false, List, ◌⊎◌, ℕ, suc, ◌^◌, ◌≤◌, ◌<◌}
use Rattle.std.proofs.Common.{sym, true≢false, ⊎_elim, arith}
use Rattle.bits.specs.declared.Refusal.TheVariants.{Reserved}
use Rattle.bits.specs.Refusals.{number_of}
use Rattle.bits.specs.Steps.{free_below, free_above, below_free, above-free}
use Rattle.bits.specs.Writes.{to_bits, only, Spells}
use Rattle.bits.specs.Back.{w-unless}
use Rattle.bits.specs.Spells.{s-unless}
use Rattle.bits.specs.Ensures.{e-unless}
use Rattle.bits.specs.Terms.{Writes, Ensures}
use Rattle.oamd.specs.Reserved.{Field, width_of, first_reserved, last_reserved, is_reserved, unreserved, unreserved_if}
use Rattle.form.specs.Lemmas.Tests.{Ranged}

-- a value of a field that is not reserved
abbrev pub Free : Field → ℕ → Type 0
Free f v = (v < 2 ^ width_of f) × (is_reserved f v ≡ false)

-- where the last values are reserved, it lies below them; where the first are, above them
pub under : (f : Field) (v : ℕ) → 2 ^ width_of f ≤ suc (last_reserved f) → Free f v → v < first_reserved f
under f v h k = free_below (first_reserved f) (last_reserved f) v k.1 (omega (arith, k.0))

pub over : (f : Field) (v : ℕ) → first_reserved f ≤ v → Free f v → last_reserved f < v
over f v h k = free_above (first_reserved f) (last_reserved f) v k.1 h

-- ---- a rule for each use

pub e-unreserved : (on : Bool) (f : Field) (Q : ℕ → Type 0) → ((v : ℕ) → (on ≡ true → Free f v) → (on ≡ false → 0 ≡ v) → Q v) → Ensures (unreserved_if on f) Q
e-unreserved on f Q h = e-unless on (number_of Reserved) (width_of f) (is_reserved f) Q h

pub s-unreserved : (on : Bool) (f : Field) (Q : List ℕ → ℕ → Type 0)
    → ((v : ℕ) → (on ≡ true → Free f v) → (on ≡ false → 0 ≡ v) → Q (only on (to_bits (width_of f) v)) v) → Spells (unreserved_if on f) Q
s-unreserved on f Q h = s-unless on (number_of Reserved) (width_of f) (is_reserved f) Q h

pub w-unreserved : (on : Bool) (f : Field) (v : ℕ) → (on ≡ true → Free f v) → (on ≡ false → 0 ≡ v)
    → Writes (unreserved_if on f) (only on (to_bits (width_of f) v)) v
w-unreserved on f v h g = w-unless on (number_of Reserved) (width_of f) (is_reserved f) v h g

-- a field that is always there, below reserved values
pub w_under : (f : Field) (v : ℕ) → v < first_reserved f → v < 2 ^ width_of f → Writes (unreserved f) (to_bits (width_of f) v) v
w_under f v a b = w-unreserved true f v (λ q. (b, below_free (first_reserved f) (last_reserved f) v a)) (λ q. absurd (true≢false q))

-- a field that is carried if the test holds, with a range of values that are not reserved
pub w-within : {carried : Bool} {low high v : ℕ} (f : Field) → Ranged carried low high 0 v → high < 2 ^ width_of f
    → (high < first_reserved f) ⊎ (last_reserved f < low) → Writes (unreserved_if carried f) (only carried (to_bits (width_of f) v)) v
w-within {carried} {low} {high} {v} f h l r =
    w-unreserved carried f v
    (λ q.
    let x = h.on q in (
      omega arith,
      ⊎_elim (λ a. below_free (first_reserved f) (last_reserved f) v (omega arith)) (λ a. above-free (first_reserved f) (last_reserved f) v (omega arith)) r,
    ))
    (λ q. sym (h.off q))
