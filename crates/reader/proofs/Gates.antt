-- A refusal that depends on a test, and a refusal that is carried on. Assumes nothing.
use mathlib.Core.Path.{◌≡◌, refl, sym, ◌∙◌}
use mathlib.Core.Bool.{Bool, true, false}
use Prim.Native.Nat.{ℕ, ◌-◌}
use lib.Dec.{eqb}
use borrow.Author.Tests.{eqb-true, eqb-false, ne_eqb}
use Rattle.bits.specs.declared.Cur.{Cur}
use Rattle.bits.specs.declared.Limit.{Limit}
use Rattle.bits.specs.Language.{pick, Bits, ok, no, P, refuse_if, run}
use Rattle.bits.specs.Steps.{no_ok}
use Rattle.bits.specs.View.{run_from, Reads}
use Rattle.bits.specs.Unique.{ran}

-- behind a refusal every reader stays where it is
pub stuck : {A : Type 0} {p : P A} {b : Bits} {c : Cur} {l : Limit} {v : A} → (c.no ≡ 0 → ⊥) → Reads p b c l v c
stuck {c = c} h = record { same = rw (ne_eqb c.no 0 h); handed = λ z. refl }

-- a number is 0 or not
pub by_zero : {X : Type 0} (n : ℕ) → (n ≡ 0 → X) → ((n ≡ 0 → ⊥) → X) → X
by_zero {X} n f g = go (eqb n 0) refl
  where
    go : (t : Bool) → eqb n 0 ≡ t → X
    go true q = f (eqb-true n 0 q)
    go false q = g (eqb-false n 0 q)

-- what one reader made of a cursor that it refuses, every reader makes of it that refuses it the same way
alike : {A B : Type 0} {p : P A} {q : P B} {b : Bits} {c d : Cur} {l : Limit} {v : A} {w : B} (n at m : ℕ) → run_from p b c l ≡ no n at m → run_from q b c l ≡ no n at m
    → Reads p b c l v d → Reads q b c l w d
alike {A} {B} {d = d} {v = v} {w} n at m e f r = record { same = go (eqb d.no 0) (r.same ∙ e) ∙ sym f; handed = r.handed }
  where
    go : (s : Bool) → pick s (ok v d.at.0) (no d.no d.at.0 d.missing) ≡ no n at m → pick s (ok w d.at.0) (no d.no d.at.0 d.missing) ≡ no n at m
    go true h = absurd (no_ok (sym h))
    go false h = let x : d.no ≡ n = cc in let y : d.at.0 ≡ at = cc in let z : d.missing ≡ m = cc in rw (x, y, z)

-- what one reader made of a refused cursor, every reader makes of it
pub carried : {A B : Type 0} {p : P A} {q : P B} {b : Bits} {c d : Cur} {l : Limit} {v : A} {w : B} → Reads p b c l v d → (c.no ≡ 0 → ⊥) → Reads q b c l w d
carried {c = c} r h = alike c.no c.at.0 c.missing (rw (ne_eqb c.no 0 h)) (rw (ne_eqb c.no 0 h)) r

-- a test's refusal is the same whatever value is given on
pub regiven : {A B : Type 0} (on : Bool) (r back : ℕ) {b : Bits} {c d : Cur} {l : Limit} {v : A} {w : B}
    → Reads (refuse_if on r back v) b c l v d → Reads (refuse_if on r back w) b c l w d
unfolding run
regiven true r back {c = c} x = by_zero c.no (λ z. alike r (c.at.0 - back) 0 (rw z) (rw z) x) (λ z. carried x z)
regiven false r back {c = c} {d} {v = v} {w} x =
    by_zero c.no (λ z. record { same = rw z (go (eqb d.no 0) (rw z at x.same)); handed = x.handed }) (λ z. carried x z)
  where
    go : (s : Bool) → pick s (ok v d.at.0) (no d.no d.at.0 d.missing) ≡ ok v c.at.0 → pick s (ok w d.at.0) (no d.no d.at.0 d.missing) ≡ ok w c.at.0
    go true e = let y : d.at.0 ≡ c.at.0 = cc in rw y
    go false e = absurd (no_ok e)

-- a test's refusal, as `refuse_if` promises it
pub gated : {A : Type 0} (on t : Bool) (r back : ℕ) {b : Bits} {c d : Cur} {l : Limit} {v w : A} → on ≡ t → (w ≡ v) × Reads (refuse_if on r back v) b c l w d
    → Reads (refuse_if t r back v) b c l v d
gated on t r back e (h, g) = rw (← e) (rw h at g)

-- a test that did not refuse
pub opened : {A : Type 0} (on : Bool) (r back : ℕ) {b : Bits} {c d : Cur} {l : Limit} {v : A} → Reads (refuse_if on r back v) b c l v d → d.no ≡ 0 → on ≡ false
unfolding run
opened true r back x z = absurd (no_ok (ran x z))
opened false r back x z = refl
