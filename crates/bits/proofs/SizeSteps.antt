-- The steps of an element's size: what is left to read behind a group's flag.
use mathlib.Core.Path.{◌≡◌, refl, ◌∙◌}
use mathlib.Core.Bool.{Bool, true, false}
use Prim.Native.Nat.{ℕ, zero, suc, ◌+◌, ◌-◌, ◌*◌, ◌≤◌, ◌<◌}
use native.Mathlib.Omega.{arith}
use native.Mathlib.Numerals.{add-one}
use lib.Dec.{eqb}
use borrow.Author.Tests.{eq-eqb, ne_eqb, eqb-true, eqb-false}
use Rattle.bits.specs.declared.Cur.{Cur}
use Rattle.bits.specs.declared.Limit.{Limit}
use Rattle.bits.specs.declared.Size.{Size}
use Rattle.bits.specs.Language.{pick, Bits, P, give, bits}
use Rattle.bits.specs.Size.{size_of, size_from, variable_bits_max}
use Rattle.bits.specs.View.{Reads, Took, Gave, valued}
use Rattle.bits.specs.Unique.{begun}
use Rattle.bits.proofs.Sticky.{Left, start, step, done, emptied}

-- what is left behind the flag m of group g; where a group follows, the value v has been moved up for it
unfoldable pub rest : ℕ → ℕ → ℕ → P Size
rest m v g = pick (eqb m 0) (give (size_of v g)) (size_from (4 - g) v g)

-- behind the flag m the value v becomes w
pub record Moved (m v w : ℕ) : Type 0 where
  pub stays : m ≡ 0 → w ≡ v
  pub up : (m ≡ 0 → ⊥) → w ≡ v * 16 + 16

-- the most that g groups come to, moved up for a further one
abbrev pub most : ℕ → ℕ
most zero = 0
most (suc g) = (most g + 15) * 16 + 16

most_le : (g : ℕ) → g ≤ 4 → most g ≤ 1118464
most_le zero h = omega arith
most_le (suc zero) h = omega arith
most_le (suc (suc zero)) h = omega arith
most_le (suc (suc (suc zero))) h = omega arith
most_le (suc (suc (suc (suc zero)))) h = omega arith
most_le (suc (suc (suc (suc (suc g))))) h = absurd (omega arith)

-- Of the reader p at c, behind the flag of d: what is left, and the bounds. Where a group follows, num_group is the count of the groups.
pub record Behind (p : P Size) (b : Bits) (c : Cur) (l : Limit) (value num groups : ℕ) (d : Cur) : Type 0 where
  pub left : Left p b c l (rest d.v value groups) d
  pub off : d.v ≡ 0 → (value ≤ 1118479) × (groups ≤ 5)
  pub on : (d.v ≡ 0 → ⊥) → (num ≡ groups) × (groups ≤ 4) × (value ≤ most groups)

module _ {p : P Size} {b : Bits} {c : Cur} {l : Limit} where
  -- one behind the other
  joined : {q : P Size} {d f : Cur} {v : Size} → Left p b c l q d → Reads q b d l v f → Reads p b c l v f
  joined x y = record { same = y.same ∙ x.same; handed = λ z. y.handed z ∙ x.handed (begun y z) }

  -- no group follows, and one follows
  over : (m v g : ℕ) {d : Cur} → m ≡ 0 → Left p b c l (rest m v g) d → Reads p b c l (size_of v g) d
  unfolding rest
  over m v g h x = done (rw (eq-eqb m 0 h) at x)

  further : (m v g : ℕ) {d : Cur} → (m ≡ 0 → ⊥) → Left p b c l (rest m v g) d → Left p b c l (size_from (4 - g) v g) d
  unfolding rest
  further m v g h x = rw (ne_eqb m 0 h) at x

  module _ {d d₁ d₂ : Cur} {x m : ℕ} (v g : ℕ) (r : Reads (bits 4) b d l x d₁) (s : Reads (bits 1) b d₁ l m d₂) where
    -- a group that another may follow
    group : (k w : ℕ) → k ≡ suc (4 - (g + 1)) → Moved m (v + x) w → Left p b c l (size_from k v g) d → Left p b c l (rest m w (g + 1)) d₂
    unfolding size_from rest
    group zero w e o h = absurd (omega arith)
    group (suc k) w e o h = go (eqb m 0) refl (step (step h r) s)
      where
        go : (t : Bool) → eqb m 0 ≡ t → Left p b c l (pick t (give (size_of (v + x) (suc g))) (size_from k ((v + x) * 16 + 16) (suc g))) d₂
            → Left p b c l (pick t (give (size_of w (g + 1))) (size_from (4 - (g + 1)) w (g + 1))) d₂
        go true q z = rw (o.stays (eqb-true m 0 q), add-one) z
        go false q z = let y : 4 - (g + 1) ≡ k = omega arith in rw (y, o.up (eqb-false m 0 q), add-one) z

    -- the last group, whatever its flag says
    last : (k : ℕ) → k ≡ 0 → Left p b c l (size_from k v g) d → Reads p b c l (size_of (v + x) (g + 1)) d₂
    unfolding size_from
    last zero e h = rw add-one (done (step (step h r) s))
    last (suc k) e h = absurd (omega arith)

  -- ---- the code's steps

  module _ {value num groups : ℕ} {d : Cur} (h : Behind p b c l value num groups d) where
    pub value_le : (d.v ≡ 0 → ⊥) → value ≤ 1118464
    value_le n = let o = h.on n in let y = most_le groups o.1 in omega arith

    -- the loop ends at its head
    pub ends : d.v ≡ 0 → (value ≤ 1118479) × (groups ≤ 5) × Reads p b c l (size_of value groups) d
    ends z = ((h.off z).0, (h.off z).1, over d.v value groups z h.left)

    module _ {d₁ d₂ : Cur} (n : d.v ≡ 0 → ⊥) (r : Took (bits 4) 16 b d l d₁) (s : Took (bits 1) 2 b d₁ l d₂) where
      -- a turn
      pub turns : {w num' : ℕ} → num < 4 → Moved d₂.v (value + d₁.v) w → ((d₂.v ≡ 0 → ⊥) → num' ≡ num + 1)
          → Behind p b c l w num' (groups + 1) d₂
      turns {w} i o e =
          let x = r.small in
          let y = h.on n in
          record {
            left = group value groups r.reads s.reads (4 - groups) w (omega arith) o (further d.v value groups n h.left);
            off = λ z. let q = o.stays z in let j = value_le n in (omega arith, omega arith);
            on = λ z. let q = o.up z in let k = e z in (omega arith, omega arith, rw (add-one groups) (omega arith));
          }

      -- the printed break
      pub breaks : 4 ≤ num → (value + d₁.v ≤ 1118479) × (groups + 1 ≤ 5) × Reads p b c l (size_of (value + d₁.v) (groups + 1)) d₂
      breaks i =
          let x = r.small in
          let y = h.on n in
          let j = value_le n in
          (omega arith, omega arith, last value groups r.reads s.reads (4 - groups) (omega arith) (further d.v value groups n h.left))

-- the first group and its flag
pub first : {b : Bits} {c d₁ d₂ : Cur} {l : Limit} {w : ℕ} → Took (bits 4) 16 b c l d₁ → Took (bits 1) 2 b d₁ l d₂ → Moved d₂.v (0 + d₁.v) w
    → Behind variable_bits_max b c l w 1 1 d₂
first {w = w} r s o =
    let x = r.small in
    record {
      left = group 0 0 r.reads s.reads 4 w refl o start;
      off = λ z. let q = o.stays z in (omega arith, omega arith);
      on = λ z. let q = o.up z in (refl, omega arith, omega arith);
    }

-- what the function answers: q is what was left before the loop
pub answers : {p q : P Size} {b : Bits} {c d f e : Cur} {l : Limit} {v g : ℕ} {z : Size} → Left p b c l q d
    → (v ≤ 1118479) × (g ≤ 5) × Reads q b d l (size_of v g) f → (z ≡ size_of v g) × (e ≡ valued f 0)
    → (z.value ≤ 19000000) × (z.groups ≤ 5) × Gave p b c l z e
answers x y h = rw h.0 (omega (arith, y.0), y.1, emptied h.1 (joined x y.2))
