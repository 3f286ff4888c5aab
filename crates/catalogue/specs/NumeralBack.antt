-- The leaves of a reader of texts: a word, and a number. Each takes the one text that it stands for.
use Rattle.std.specs.Prelude.{◌≡◌, refl, Bool, true, false, List, [], ◌∷◌, ◌++◌, ℕ, ◌+◌, ◌-◌, ◌*◌, ◌≤◌, eqb, leb}
use Rattle.std.proofs.Common.{sym, ap, ◌∙◌, arith, eqb-true, eq-eqb, ne_eqb, leb-true, le-leb}
use Rattle.std.proofs.Math.Option.{Option, none, some}
use Rattle.std.proofs.lemmas.Bool.{eqb-false}
use Rattle.bits.specs.Language.{pick}
use Rattle.bits.specs.Steps.{by_order}
use Rattle.form.specs.Lemmas.Tests.{by-test, always, halves}
use Rattle.text.specs.Numerals.{digit, decimal, Digit, Digits, Numeral, worth_from, worth}
use Rattle.text.specs.NumeralLaws.{decimal_one, decimal-worth, decimal-numeral, decimal_only}
use Rattle.catalogue.specs.Scan.{after, is_digit, digits, numeral}

none_some : {A : Type 0} {a : A} → none ≡ some a → ⊥
none_some h = let z : ◌≡◌ {A = ℕ} 0 1 = cc in omega arith

-- what is there by a test
pick_some : {A : Type 0} (t : Bool) (o : Option A) {a : A} → pick t o none ≡ some a → (t ≡ true) × (o ≡ some a)
pick_some true o h = (refl, h)
pick_some false o h = absurd (none_some h)

-- both halves of what is there
some_pair : {A B : Type 0} {a c : A} {b d : B} → ◌≡◌ {A = Option (A × B)} (some (a, b)) (some (c, d)) → (a ≡ c) × (b ≡ d)
some_pair {A} {B} {a} {c} {b} {d} h =
    let e : ◌≡◌ {A = A × B} (a, b) (c, d) = cc in
    (ap (λ (x : A × B). x.0) e, ap (λ (x : A × B). x.1) e)

-- ---- a word

pub after-append : (w s : List ℕ) → after w (w ++ s) ≡ some s
unfolding after
after-append [] s = refl
after-append (c ∷ w) s = rw (eq-eqb c c refl) (after-append w s)

pub after_only : (w s r : List ℕ) → after w s ≡ some r → s ≡ w ++ r
unfolding after
after_only [] s r h = cc
after_only (c ∷ w) [] r h = absurd (none_some h)
after_only (c ∷ w) (x ∷ s) r h =
    let g = pick_some (eqb x c) (after w s) h in
    let e = eqb-true x c g.0 in
    let f = after_only w s r g.1 in
    cc

-- ---- a number

-- what stands behind a number: no digit
abbrev pub NoDigit : List ℕ → Type 0
NoDigit [] = Unit {0}
NoDigit (c ∷ s) = is_digit c ≡ false

worth_more : (n : ℕ) (cs : List ℕ) → n ≤ worth_from n cs
worth_more n [] = omega arith
worth_more n (c ∷ cs) = let h = worth_more (10 * n + (c - digit 0)) cs in omega arith

digits_end : (most n : ℕ) (s : List ℕ) → NoDigit s → digits most n s ≡ some (n, s)
unfolding digits
digits_end most n [] h = refl
digits_end most n (c ∷ s) h = rw h

digits_back : (most n : ℕ) (cs s : List ℕ) → Digits cs → worth_from n cs ≤ most → NoDigit s → digits most n (cs ++ s) ≡ some (worth_from n cs, s)
unfolding digits
digits_back most n [] s d l h = digits_end most n s h
digits_back most n (c ∷ cs) s d l h =
    let m : ℕ = 10 * n + (c - digit 0) in
    let w = worth_more m cs in
    rw (always (digit 0) (digit 9) c d.0.0 d.0.1, le-leb m most (omega arith)) (digits_back most m cs s d.1 l h)

numeral-worth : (most : ℕ) (cs s : List ℕ) → Numeral cs → worth cs ≤ most → NoDigit s → numeral most (cs ++ s) ≡ some (worth cs, s)
unfolding numeral
numeral-worth most [] s d l h = absurd d
numeral-worth most (c ∷ []) s d l h = rw (always (digit 0) (digit 9) c d.0 d.1)
    (by-test (eqb c (digit 0))
    (λ e. let z = eqb-true c (digit 0) e in rw e (ap (λ (m : ℕ). some (m, s)) (omega arith)))
    (λ e. rw e (digits_back most 0 (c ∷ []) s (d, tt) l h)))
numeral-worth most (c ∷ x ∷ cs) s d l h =
    let first = d.0 in
    rw (always (digit 0) (digit 9) c d.1.0.0 d.1.0.1, ne_eqb c (digit 0) (λ e. omega arith)) (digits_back most 0 (c ∷ x ∷ cs) s d.1 l h)

pub numeral_back : (most n : ℕ) (s : List ℕ) → n ≤ most → NoDigit s → numeral most (decimal n ++ s) ≡ some (n, s)
numeral_back most n s l h =
    let e = decimal-worth n in
    numeral-worth most (decimal n) s (decimal-numeral n) (omega arith) h ∙ ap (λ (m : ℕ). some (m, s)) e

-- the digits that were taken, and what they stand for
record Taken (most n : ℕ) (s : List ℕ) (v : ℕ) (r : List ℕ) : Type 0 where
  cs : List ℕ
  are : Digits cs
  from_there : s ≡ cs ++ r
  stands : v ≡ worth_from n cs
  within : n ≤ most → v ≤ most

is_digit_lem : (c : ℕ) → is_digit c ≡ true → Digit c
is_digit_lem c h = let g = halves (leb (digit 0) c) (leb c (digit 9)) h in (leb-true (digit 0) c g.0, leb-true c (digit 9) g.1)

none-taken : (most n : ℕ) (s : List ℕ) (v : ℕ) (r : List ℕ) → ◌≡◌ {A = Option (ℕ × List ℕ)} (some (n, s)) (some (v, r)) → Taken most n s v r
none-taken most n s v r h = let e = some_pair h in record { cs = []; are = tt; from_there = e.1; stands = sym e.0; within = λ l. let f = e.0 in omega arith }

digits_only : (most n : ℕ) (s : List ℕ) (v : ℕ) (r : List ℕ) → digits most n s ≡ some (v, r) → Taken most n s v r
unfolding digits
digits_only most n [] v r h = none-taken most n [] v r h
digits_only most n (c ∷ s) v r h =
    by-test (is_digit c)
    (λ q.
    let m : ℕ = 10 * n + (c - digit 0) in
    let g = pick_some (leb m most) (digits most m s) (rw q at h) in
    let t = digits_only most m s v r g.1 in
    let e = t.from_there in
    record {
      cs = c ∷ t.cs;
      are = (is_digit_lem c q, t.are);
      from_there = cc;
      stands = t.stands;
      within = λ l. t.within (leb-true m most g.0);
    })
    (λ q. none-taken most n (c ∷ s) v r (rw q at h))

first-numeral : (c : ℕ) (cs : List ℕ) → Digits (c ∷ cs) → (c ≡ digit 0 → ⊥) → Numeral (c ∷ cs)
first-numeral c [] d z = d.0
first-numeral c (x ∷ cs) d z = (let l = d.0.0 in by_order (digit 1) c (λ m. m) (λ m. absurd (z (omega arith))), d)

pub numeral_only : (most n : ℕ) (s r : List ℕ) → numeral most s ≡ some (n, r) → (s ≡ decimal n ++ r) × (n ≤ most)
unfolding numeral digits
numeral_only most n [] r h = absurd (none_some h)
numeral_only most n (c ∷ s) r h =
    let g = pick_some (is_digit c) _ h in
    let d = is_digit_lem c g.0 in
    by-test (eqb c (digit 0))
    (λ q.
    let e = some_pair (rw q at g.1) in
    let n-is = e.0 in
    let rest-is = e.1 in
    let w = decimal_one 0 (omega arith) in
    let z = eqb-true c (digit 0) q in
    (cc, omega arith))
    (λ q.
    let e : digits most 0 (c ∷ s) ≡ some (n, r) = rw q at g.1 in
    let m : ℕ = 10 * 0 + (c - digit 0) in
    let f = pick_some (leb m most) (digits most m s) (rw g.0 at e) in
    let t = digits_only most m s n r f.1 in
    let w = decimal_only (c ∷ t.cs) (first-numeral c t.cs (d, t.are) (eqb-false c (digit 0) q)) in
    let v = t.stands in
    let u = t.from_there in
    (ap (λ (x : List ℕ). c ∷ x) u ∙ ap (λ (x : List ℕ). x ++ r) (w ∙ ap decimal (sym v)), t.within (leb-true m most f.0)))
