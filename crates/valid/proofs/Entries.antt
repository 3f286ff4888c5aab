-- Whether the entries of an array are valid, as a loop tests it: the test so far and what is left are together the whole. Assumes nothing.
use mathlib.Core.Path.{◌≡◌, refl, sym, ◌∙◌}
use mathlib.Core.Bool.{Bool, true, false, ◌&&◌}
use mathlib.Core.List.{List}
use Prim.Native.Nat.{ℕ, zero, suc, ◌+◌, ◌-◌, ◌<◌, ◌≤◌}
use native.Mathlib.Nat.{sub-zero}
use native.Mathlib.Numerals.{add-one}
use native.Mathlib.Omega.{arith}
use lib.Dec.{leb, ltb, eqb}
use lib.ListN.{length, get_or, drop, drop_of_length-le}
use lib.Seq.{drop-cons}
use borrow.Author.Tests.{eq-eqb, lt-ltb, le-ltb, le-leb, lt-leb}
use Rattle.bits.specs.Language.{both}
use Rattle.bits.specs.Steps.{by_order}
use Rattle.form.specs.Valid.{entries_valid}
use Rattle.valid.specs.Parts.{all_below}

pub both-assoc : (a b c : Bool) → both (both a b) c ≡ both a (both b c)
both-assoc true b c = refl
both-assoc false b c = refl

pub and-assoc : (a b c : Bool) → (a && b) && c ≡ a && (b && c)
and-assoc true b c = refl
and-assoc false b c = refl

pub both_true : (a : Bool) → both a true ≡ a
both_true true = refl
both_true false = refl

-- entry i of n that are used
used : (i n : ℕ) → ltb i n ≡ leb 1 (n - i)
used i n = by_order n i
    (λ h. le-ltb i n h ∙ sym (lt-leb 1 (n - i) (omega arith)))
    (λ h. lt-ltb i n (omega arith) ∙ sym (le-leb 1 (n - i) (omega arith)))

-- the entries before place i make the test `valid`
pub record SoFar {A : Type 0} (f : Bool → A → Bool) (n : ℕ) (xs : List A) (valid : Bool) (i : ℕ) : Type 0 where
  pub within : i ≤ length xs
  pub all : both valid (entries_valid f (n - i) (drop i xs)) ≡ entries_valid f n xs

module _ {A : Type 0} {f : Bool → A → Bool} {n : ℕ} {xs : List A} where
  pub none : SoFar f n xs true 0
  none = record { within = omega arith; all = rw (sub-zero n) }

  pub turn : {valid next t : Bool} {i : ℕ} (d : A) → SoFar f n xs valid i → i < length xs → t ≡ f (ltb i n) (get_or xs i d) → next ≡ both valid t
      → SoFar f n xs next (i + 1)
  unfolding entries_valid
  turn {valid} {next} {t} {i} d before h q e =
      let m : n - i - 1 ≡ n - suc i = omega arith in
      let step : entries_valid f (n - i) (drop i xs) ≡ both t (entries_valid f (n - (i + 1)) (drop (i + 1) xs)) =
      rw (drop-cons xs i d h, q, used i n, add-one i, m) in
      record { within = omega arith; all = rw (e, both-assoc, ← step) before.all }

  pub whole : {valid : Bool} {i : ℕ} → SoFar f n xs valid i → length xs ≤ i → valid ≡ entries_valid f n xs
  unfolding entries_valid
  whole {valid} {i} before h = sym (both_true valid) ∙ rw (drop_of_length-le xs h) at before.all

-- a test of each entry, by its number
module _ {A : Type 0} (f : Bool → A → Bool) (n : ℕ) (xs : List A) (d : A) where
  abbrev pub tested : ℕ → Bool
  tested i = f (ltb i n) (get_or xs i d)

  all_before : (i : ℕ) → i ≤ length xs → SoFar f n xs (all_below tested i) i
  unfolding all_below
  all_before zero h = none
  all_before (suc i) h = rw add-one at (turn d (all_before i (omega arith)) (omega arith) refl refl)

  -- of m entries
  pub all_of : (m : ℕ) → length xs ≡ m → all_below tested m ≡ entries_valid f n xs
  all_of m l = rw (← l) (whole (all_before (length xs) (omega arith)) (omega arith))

  -- of an array of m
  pub all_of_array : (m : ℕ) → length xs ≡ m → all_below tested m ≡ both (eqb (length xs) m) (entries_valid f n xs)
  all_of_array m l = rw (eq-eqb (length xs) m l) (all_of m l)
