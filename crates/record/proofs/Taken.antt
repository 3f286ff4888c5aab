-- A record that is taken where there is a whole one. Assumes nothing.
use mathlib.Core.Path.{◌≡◌, sym, ◌∙◌}
use mathlib.Core.Bool.{Bool, true, false}
use Prim.Native.Nat.{ℕ, ◌+◌, ◌-◌, ◌≤◌, ◌<◌}
use native.Mathlib.Omega.{arith}
use lib.Dec.{leb}
use borrow.Author.Tests.{le-leb, lt-leb, leb-true, leb-false}
use Rattle.bits.specs.Steps.{by_order}

-- n bytes stand behind `at` where there are n among those behind it
pub by_what_is_left : (at n length : ℕ) → at ≤ length → leb n (length - at) ≡ leb (at + n) length
by_what_is_left at n length h = by_order n (length - at)
    (λ q. le-leb n (length - at) q ∙ sym (le-leb (at + n) length (omega arith)))
    (λ q. lt-leb n (length - at) q ∙ sym (lt-leb (at + n) length (omega arith)))

pub none_left : (at n length : ℕ) → length < at → false ≡ leb (at + n) length
none_left at n length h = sym (lt-leb (at + n) length (omega arith))

-- what is answered where the test for n bytes holds, and where it does not
module _ {n length : ℕ} {test : Bool} (tested : test ≡ leb n length) where
  pub whole : test ≡ true → n ≤ length
  whole h = leb-true n length (sym tested ∙ h)

  pub cut : test ≡ false → length < n
  cut h = leb-false n length (sym tested ∙ h)

  pub taken : {A : Type 0} {r x y : A} → test ≡ true → r ≡ x → (n ≤ length → r ≡ x) × (length < n → r ≡ y)
  taken h q = let w = whole h in ((λ l. q), (λ l. absurd (omega arith)))

  pub absent : {A : Type 0} {r x y : A} → test ≡ false → r ≡ y → (n ≤ length → r ≡ x) × (length < n → r ≡ y)
  absent h q = let w = cut h in ((λ l. absurd (omega arith)), (λ l. q))
