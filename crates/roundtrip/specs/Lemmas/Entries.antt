-- Arrays of which the first entries are used, and loops over lists whose entries all pass.
use Rattle.std.specs.Prelude.{◌≡◌, Bool, replicate, take}
use Rattle.std.proofs.Math.Path.{refl, ap, ap₂}
use Rattle.std.proofs.Common.{sym}
use Rattle.std.proofs.Math.Bool.{true, false}
use mathlib.Core.List.{List, [], ◌∷◌, ◌++◌}
use Prim.Native.Nat.{ℕ, zero, suc, ◌-◌, ◌/◌, ◌≤◌}
use native.Mathlib.Omega.{arith}
use Rattle.std.proofs.Math.ListN.{length}
use Rattle.std.proofs.Math.Dec.{leb}
use borrow.Author.Tests.{le-leb}
use Rattle.bits.specs.Language.{from}
use Rattle.bits.specs.Terms.{Along, Every}
use Rattle.oamd.specs.declared.Shares.{Shares}
use Rattle.oamd.specs.Programme.{class_of}
use Rattle.form.specs.Valid.{entries_valid}
use Rattle.form.specs.Lemmas.Tests.{halves}

-- each entry passes by the class of its object, the indices counting from i
abbrev pub ByClass : {A : Type 0} → (ℕ → A → Bool) → Shares → ℕ → ℕ → List A → Type 0
ByClass valid s blocks i [] = Unit {0}
ByClass valid s blocks i (x ∷ xs) = (valid (class_of s (i / blocks)) x ≡ true) × ByClass valid s blocks (suc i) xs

module _ {A : Type 0} (valid : Bool → A → Bool) where
  -- the first n are valid as used ones
  pub entries-used : (n : ℕ) (xs : List A) → entries_valid valid n xs ≡ true → Every (λ a. valid true a ≡ true) (take n xs)
  unfolding entries_valid
  entries-used zero [] h = tt
  entries-used (suc n) [] h = tt
  entries-used zero (a ∷ rest) h = tt
  entries-used (suc n) (a ∷ rest) h =
      let e : leb 1 (suc n) ≡ true = le-leb 1 (suc n) (omega arith) in
      let m : suc n - 1 ≡ n = omega arith in
      let x = halves (valid true a) (entries_valid valid n rest) (rw (e, m) at h) in
      (x.0, entries-used n rest x.1)

  -- and the others are the one that is not used
  module _ (none : A) (unused : (a : A) → valid false a ≡ true → a ≡ none) where
    pub entries-unused : (xs : List A) → entries_valid valid 0 xs ≡ true → replicate (length xs) none ≡ xs
    unfolding entries_valid
    entries-unused [] h = refl
    entries-unused (a ∷ rest) h =
        let x = halves (valid false a) (entries_valid valid 0 rest) h in
        ap₂ (λ (y : A) (ys : List A). y ∷ ys) (sym (unused a x.0)) (entries-unused rest x.1)

    pub entries-filled : (n : ℕ) (xs : List A) → entries_valid valid n xs ≡ true → n ≤ length xs
        → take n xs ++ replicate (length xs - length (take n xs)) none ≡ xs
    unfolding entries_valid
    entries-filled zero [] h l = refl
    entries-filled (suc n) [] h l = absurd (omega arith)
    entries-filled zero (a ∷ rest) h l =
        let k : suc (length rest) - 0 ≡ suc (length rest) = omega arith in
        rw k (entries-unused (a ∷ rest) h)
    entries-filled (suc n) (a ∷ rest) h l =
        let e : leb 1 (suc n) ≡ true = le-leb 1 (suc n) (omega arith) in
        let m : suc n - 1 ≡ n = omega arith in
        let x = halves (valid true a) (entries_valid valid n rest) (rw (e, m) at h) in
        let k : suc (length rest) - suc (length (take n rest)) ≡ length rest - length (take n rest) = omega arith in
        ap (λ (ys : List A). a ∷ ys) (rw k (entries-filled n rest x.1 (omega arith)))

-- a loop that counts along a list of such entries
pub along : {Y : Type 0} (Q : Y → Type 0) (R : ℕ → ℕ → Y → Type 0) → ((i : ℕ) (y : Y) → Q y → R i i y)
    → (i : ℕ) (ys : List Y) → Every Q ys → Along R (from i (length ys)) i ys
unfolding from
along Q R f i [] h = tt
along Q R f i (y ∷ ys) h = (f i y h.0, along Q R f (suc i) ys h.1)
