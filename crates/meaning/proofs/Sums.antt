-- A sum over a list, as a loop makes it: what stands so far and what is left are together the whole. Assumes nothing.
use mathlib.Core.Path.{◌≡◌, refl, sym, ap, ◌∙◌}
use mathlib.Core.Bool.{Bool, true, false}
use mathlib.Core.List.{List, [], ◌∷◌}
use Prim.Native.Nat.{ℕ, zero, suc, ◌+◌, ◌-◌, ◌*◌, ◌/◌, ◌%◌, ◌^◌, ◌<◌, ◌≤◌}
use native.Mathlib.Numerals.{add-one}
use native.Mathlib.Omega.{arith}
use lib.Dec.{eqb}
use lib.ListN.{length, get_or, drop, replicate, drop_of_length-le}
use lib.Seq.{drop-cons}
use Rattle.std.specs.Int.Count.{ones}
use Rattle.std.proofs.Math.Nat.{mod-one}
use Rattle.std.proofs.lemmas.Nat.{ones_cat, mod-pow-add, pow_pos}
use borrow.Author.Tests.{eqb-true, eqb-false}
use Rattle.bits.specs.Language.{flag}
use Rattle.oamd.specs.Programme.{labels, bed_objects, all_beds}

-- s k xs is the sum over the entries xs, which stand from place k on: each adds what f says
pub record Sum {A : Type 0} (s : ℕ → List A → ℕ) (f : ℕ → A → ℕ) : Type 0 where
  pub nil : (k : ℕ) → s k [] ≡ 0
  pub cons : (k : ℕ) (x : A) (xs : List A) → s k (x ∷ xs) ≡ f k x + s (suc k) xs

-- the entries before place k make sum, and each of them at most most
pub record SoFar {A : Type 0} (s : ℕ → List A → ℕ) (most : ℕ) (xs : List A) (sum k : ℕ) : Type 0 where
  pub within : k ≤ length xs
  pub few : sum ≤ most * k
  pub all : sum + s k (drop k xs) ≡ s 0 xs

module _ {A : Type 0} {s : ℕ → List A → ℕ} {f : ℕ → A → ℕ} (law : Sum s f) {most : ℕ} {xs : List A} where
  pub none : SoFar s most xs 0 0
  none = record { within = omega arith; few = omega arith; all = omega arith }

  pub turn : {sum k next : ℕ} (d : A) → SoFar s most xs sum k → k < length xs → next ≡ sum + f k (get_or xs k d) → f k (get_or xs k d) ≤ most
      → SoFar s most xs next (k + 1)
  turn {sum} {k} d before h q b =
      let e : s k (drop k xs) ≡ f k (get_or xs k d) + s (suc k) (drop (suc k) xs) = rw (drop-cons xs k d h) (law.cons k _ _) in
      record { within = omega arith; few = omega arith; all = rw add-one (omega arith) }

  pub whole : {sum k : ℕ} → SoFar s most xs sum k → length xs ≤ k → (sum ≡ s 0 xs) × (sum ≤ most * length xs)
  whole {sum} {k} before h =
      let e : s k (drop k xs) ≡ 0 = rw (drop_of_length-le xs h) (law.nil k) in
      let n : length xs ≡ k = omega arith in
      (omega arith, rw n before.few)

-- the labels of the indices from j on
abbrev pub labels_from : ℕ → ℕ → ℕ → List ℕ → ℕ
labels_from n v j counts = labels n j counts v

pub label-sum : (n v : ℕ) → Sum (labels_from n v) (λ j count. flag n j v * count)
unfolding labels
label-sum n v = record { nil = λ j. refl; cons = λ j x xs. refl }

-- one index more, whose flag the code found to be t
module _ (n v : ℕ) {most : ℕ} {counts : List ℕ} {sum k next : ℕ} {t : Bool} (before : SoFar (labels_from n v) most counts sum k) (h : k < length counts)
    (e : t ≡ eqb (flag n k v) 1) where
  pub set : t ≡ true → next ≡ sum + get_or counts k 0 → get_or counts k 0 ≤ most → SoFar (labels_from n v) most counts next (k + 1)
  set p q b =
      let one : flag n k v ≡ 1 = eqb-true (flag n k v) 1 (sym e ∙ p) in
      turn (label-sum n v) 0 before h (rw one (omega arith)) (rw one (omega arith))

  pub clear : t ≡ false → next ≡ sum → SoFar (labels_from n v) most counts next (k + 1)
  clear p q =
      let not-one = eqb-false (flag n k v) 1 (sym e ∙ p) in
      let zero : flag n k v ≡ 0 = omega arith in
      turn (label-sum n v) 0 before h (rw zero (omega arith)) (rw zero (omega arith))

pub bed-sum : Sum (λ i bs. all_beds bs) (λ i b. bed_objects b)
unfolding all_beds
bed-sum = record { nil = λ i. refl; cons = λ i b bs. refl }

-- a flag is its own count
one-flag : (a : ℕ) → a < 2 → a * 1 ≡ ones a
unfolding ones
one-flag zero h = refl
one-flag (suc zero) h = refl
one-flag (suc (suc a)) h = absurd (omega arith)

-- where each flag counts one, as many labels as flags are set
pub each-one : (n k m v : ℕ) → n ≡ k + m → labels n k (replicate m 1) v ≡ ones (v % 2 ^ m)
unfolding labels
each-one n k zero v e = rw (mod-one v) (one-flag zero (omega arith))
each-one n k (suc m) v e =
    let f : n - 1 - k ≡ m = omega arith in
    let g : suc m ≡ 1 + m = omega arith in
    let low : v % 2 ^ m < 2 ^ m = omega (arith, pow_pos m) in
    rw (f, each-one n (suc k) m v (omega arith), g, mod-pow-add v 1 m, ones_cat m (v / 2 ^ m % 2) (v % 2 ^ m) low)
    (ap (λ (j : ℕ). j + ones (v % 2 ^ m)) (one-flag (v / 2 ^ m % 2) (omega arith)))
