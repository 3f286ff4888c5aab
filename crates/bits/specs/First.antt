-- Which of two lists of bits is to be written: the one with fewer bits, and of equal length the smaller number.
use Rattle.std.specs.Prelude.{◌≡◌, refl, Bool, true, false, List, [], ◌∷◌, ◌++◌, ℕ, suc, ◌+◌, ◌*◌, ◌^◌, ◌≤◌, length, leb, ltb, eqb}
use Rattle.std.proofs.Common.{sym, ap, ◌∙◌, append-nil, arith, mul-le-mul_right, length-append, leb-true, ltb-true, eqb-true}
use Rattle.std.proofs.lemmas.Bool.{eqb-false}
use Rattle.bits.specs.Language.{pick, number, P, each}
use Rattle.bits.specs.Writes.{each_bits, Spells, First}
use Rattle.bits.specs.Lists.{number_append}
use Rattle.bits.specs.Spells.{s-give, s-bind, s-then}
use Rattle.bits.specs.Terms.{first?, bits_of_each}

pub first_of : (l m : List ℕ) → first? l m ≡ true → First l m
first_of l m h = go (eqb (length l) (length m)) refl h
  where
    go : (t : Bool) → eqb (length l) (length m) ≡ t → pick t (leb (number l) (number m)) (ltb (length l) (length m)) ≡ true → First l m
    go true q h = record { fewer = (let e = eqb-true (length l) (length m) q in omega arith); smaller = λ e. leb-true _ _ h }
    go false q h = let x = ltb-true (length l) (length m) h in record { fewer = omega arith; smaller = λ e. absurd (eqb-false _ _ q e) }

pub first_same : (l : List ℕ) → First l l
first_same l = record { fewer = omega arith; smaller = λ e. omega arith }

-- no bits come first
pub first_none : (l : List ℕ) → First [] l
unfolding number
first_none l = record { fewer = omega arith; smaller = λ e. omega arith }

-- what comes first in each part comes first in the whole
pub first-append : {a b c d : List ℕ} → First a b → First c d → First (a ++ c) (b ++ d)
first-append {a} {b} {c} {d} f g =
    let x = f.fewer in
    let y = g.fewer in
    let m = length-append a c in
    let n = length-append b d in
    record {
      fewer = omega arith;
      smaller = λ e.
          let p : length a ≡ length b = omega arith in
          let q : length c ≡ length d = omega arith in
          let u = mul-le-mul_right (2 ^ length c) (f.smaller p) in
          let v = g.smaller q in
          rw (number_append a c, number_append b d, ← q) (omega arith);
    }

-- a common beginning does not matter
pub first-cancel : (a l m : List ℕ) → First (a ++ l) (a ++ m) → First l m
first-cancel a l m f =
    let x = f.fewer in
    let i = length-append a l in
    let j = length-append a m in
    record {
      fewer = omega arith;
      smaller = λ e.
          let y : number (a ++ l) ≤ number (a ++ m) = f.smaller (omega arith) in
          let p = number_append a l in
          let q : number (a ++ m) ≡ number a * 2 ^ length l + number m = number_append a m ∙ ap (λ (n : ℕ). number a * 2 ^ n + number m) (sym e) in
          omega arith;
    }

-- ---- a loop

-- what comes first of each value comes first of all, and there are as many values as entries
pub each_first : {X A : Type 0} (f : X → P A) (enc : X → A → List ℕ) → ((x : X) → Spells (f x) (λ l a. First (enc x a) l))
    → (xs : List X) → Spells (each f xs) (λ l vs. First (bits_of_each enc xs vs) l × (length vs ≡ length xs))
unfolding each
each_first f enc h [] = s-give _ _ (first_same [], refl)
each_first f enc h (x ∷ xs) =
    s-bind _ _ _ (s-then _ _ _ (h x) λ l a p. s-bind _ _ _ (s-then _ _ _ (each_first f enc h xs) λ m vs q. s-give _ _
    (rw (append-nil m) (first-append p q.0), ap suc q.1)))

-- where the entry does not matter
pub bits_of_all : {X A : Type 0} (enc : A → List ℕ) (xs : List X) (i : ℕ) (vs : List A) → length vs ≡ length xs
    → bits_of_each (λ x. enc) xs vs ≡ each_bits (λ j. enc) i vs
unfolding each_bits
bits_of_all enc [] i [] h = refl
bits_of_all enc [] i (v ∷ vs) h = absurd (omega arith)
bits_of_all enc (x ∷ xs) i [] h = absurd (omega arith)
bits_of_all enc (x ∷ xs) i (v ∷ vs) h = ap (λ (l : List ℕ). enc v ++ l) (bits_of_all enc xs (suc i) vs (omega arith))
