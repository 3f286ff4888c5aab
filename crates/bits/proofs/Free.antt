-- Reading without an end: one law for each step, and the end held against where it came to.
use mathlib.Core.Path.{◌≡◌, refl, subst, ◌∙◌}
use mathlib.Core.Bool.{Bool, false}
use mathlib.Core.List.{List}
use Prim.Native.Nat.{ℕ, ◌+◌, ◌≤◌}
use native.Mathlib.Omega.{arith}
use borrow.Author.Tests.{le-leb}
use Rattle.units.specs.declared.BitPos.{BitPos}
use Rattle.bits.specs.declared.Cur.{Cur}
use Rattle.bits.specs.declared.Limit.{Limit}
use Rattle.bits.specs.Language.{Bits, slice, P, give, field, ◌>>=◌, run, bits, refuse_if}
use Rattle.bits.specs.Steps.{bind_is}
use Rattle.bits.specs.View.{over_of, Reads, Freely, looked, Looks}

module _ {b : Bits} where
  pub free-give : {A : Type 0} {v : A} {at : ℕ} → Freely (give v) b at v at
  unfolding run
  free-give = record { forward = omega arith; same = λ e o h. refl }

  pub free-field : {A : Type 0} {w at : ℕ} {f : List ℕ → A} {v : A} → v ≡ f (slice b at w) → Freely (field w f) b at v (at + w)
  unfolding run
  free-field {w = w} {at} q = record { forward = omega arith; same = λ e o h. rw (le-leb (at + w) e h, q) }

  pub free-bind : {A B : Type 0} {p : P A} {k : A → P B} {at mid to : ℕ} {v : A} {w : B}
      → Freely p b at v mid → Freely (k v) b mid w to → Freely (p >>= k) b at w to
  free-bind {p = p} {k} {at} {mid} {to} x y =
      record {
        forward = omega (arith, x.forward, y.forward);
        same = λ e o h. bind_is p k b at e o (x.same e o (omega (arith, y.forward))) ∙ y.same e o h;
      }

  -- what was read freely, and does not pass the limit's end, is read
  pub held : {A : Type 0} {p : P A} {c : Cur} {l : Limit} {v : A} {to x : ℕ} {at : BitPos}
      → Freely p b c.at.0 v to → c.no ≡ 0 → to ≤ l.end.0 → at.0 ≡ to → Reads p b c l v (record { v = x; missing = c.missing; at = at; no = 0 })
  held {l = l} f z h q = record { same = rw (z, q, f.same l.end.0 (over_of l.inner) h); handed = λ y. refl }

-- ---- the same within a window

module _ {x : ℕ} where
  pub looks-give : {A : Type 0} {v : A} {o : ℕ} → Looks (give v) x o v o
  looks-give = record { free = λ b base s. free-give }

  pub looks-bits : {o n v : ℕ} → v ≡ looked x o n → o + n ≤ 64 → Looks (bits n) x o v (o + n)
  looks-bits {o} {n} {v} q h =
      record {
        free = λ b base s.
            let e : base + o + n ≡ base + (o + n) = omega arith in
            subst (λ (k : ℕ). Freely (bits n) b (base + o) v k) e (free-field (q ∙ s.sight o n h));
      }

  pub looks-bind : {A B : Type 0} {p : P A} {k : A → P B} {o m to : ℕ} {v : A} {w : B}
      → Looks p x o v m → Looks (k v) x m w to → Looks (p >>= k) x o w to
  looks-bind f g = record { free = λ b base s. free-bind (f.free b base s) (g.free b base s) }

  -- nothing is refused
  pub looks-unless : {A : Type 0} {o : ℕ} (on : Bool) (r back : ℕ) (v : A) → on ≡ false → Looks (refuse_if on r back v) x o v o
  looks-unless on r back v h = rw h looks-give

  -- `first ▹ second ▹ .. ▹ looks-give`
  infixr 20 ◌▹◌
  pub ◌▹◌ : {A B : Type 0} {p : P A} {k : A → P B} {o m to : ℕ} {v : A} {w : B}
      → Looks p x o v m → Looks (k v) x m w to → Looks (p >>= k) x o w to
  f ▹ g = looks-bind f g
