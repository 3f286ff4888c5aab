-- Each step of a reader by itself: an answer taken apart, and put together.
use Rattle.std.specs.Prelude.{◌≡◌, refl, Bool, true, false, List, ℕ, zero, suc, ◌+◌, ◌-◌, ◌≤◌, ◌<◌, length, get_or, leb}
use Rattle.std.proofs.Common.{sym, ap, ◌∙◌, true≢false, arith, leb-true, leb-false, le-leb}
use Rattle.std.proofs.lemmas.Bool.{lt-leb}
use Rattle.bits.specs.Language.{Res, ok, no, pick, both, between, Bits, slice, P, give, refuse, field, within, ◌>>=◌, and_then, run, past_declared}
use Rattle.bits.specs.Writes.{listed}

-- ---- answers

pub no_ok : {A : Type 0} {r pl m : ℕ} {v : A} {to : ℕ} → no r pl m ≡ ok v to → ⊥
no_ok h = let z : ◌≡◌ {A = ℕ} 0 1 = cc in omega arith

pub value : {A : Type 0} {v w : A} {m n : ℕ} → ok v m ≡ ok w n → v ≡ w
value h = cc

pub next : {A : Type 0} {v w : A} {m n : ℕ} → ok v m ≡ ok w n → m ≡ n
next h = cc

pub place : {A : Type 0} {r s pl ql m n : ℕ} → ◌≡◌ {A = Res A} (no r pl m) (no s ql n) → (s ≡ r) × (ql ≡ pl)
place h = (cc, cc)

pub same_no : {A : Type 0} {r pl m r' pl' m' : ℕ} → ◌≡◌ {A = Res A} (no r pl m) (no r' pl' m') → (r ≡ r') × (pl ≡ pl') × (m ≡ m')
same_no {A} {r} {pl} {m} {r'} {pl'} {m'} h =
    let i : r ≡ r' = cc in
    let j : pl ≡ pl' = cc in
    let k : m ≡ m' = cc in
    (i, j, k)

pub ok_at : {A : Type 0} {r : Res A} {v : A} {m n : ℕ} → r ≡ ok v m → n ≡ m → r ≡ ok v n
ok_at h e = cc

pub pick_ok : {A : Type 0} (t : Bool) (r : Res A) (q pl m : ℕ) {v : A} {to : ℕ} → pick t r (no q pl m) ≡ ok v to → (t ≡ true) × (r ≡ ok v to)
pick_ok true r q pl m h = (refl, h)
pick_ok false r q pl m h = absurd (no_ok h)

pub and_then_ok : {A B : Type 0} (r : Res A) (k : A → ℕ → Res B) {v : B} {to : ℕ} → and_then r k ≡ ok v to
    → (a : A) × (mid : ℕ) × (r ≡ ok a mid) × (k a mid ≡ ok v to)
and_then_ok (ok a mid) k h = (a, mid, refl, h)
and_then_ok (no r pl m) k h = absurd (no_ok h)

-- either order of two numbers
pub by_order : {X : Type 0} (m n : ℕ) → (m ≤ n → X) → (n < m → X) → X
by_order {X} m n f g = go (leb m n) refl
  where
    go : (t : Bool) → leb m n ≡ t → X
    go true q = f (leb-true m n q)
    go false q = g (leb-false m n q)

-- a number that is not one of low to high lies below them or above them
pub free_below : (low high v : ℕ) → between low high v ≡ false → v ≤ high → v < low
free_below low high v h l = by_order low v (λ m. absurd (true≢false (sym (rw (le-leb low v m, le-leb v high l) refl) ∙ h))) (λ m. m)

pub free_above : (low high v : ℕ) → between low high v ≡ false → low ≤ v → high < v
free_above low high v h l = by_order v high (λ m. absurd (true≢false (sym (rw (le-leb low v l, le-leb v high m) refl) ∙ h))) (λ m. m)

pub below_free : (low high v : ℕ) → v < low → between low high v ≡ false
below_free low high v h = rw (lt-leb low v h)

pub above-free : (low high v : ℕ) → high < v → between low high v ≡ false
above-free low high v h = rw (lt-leb v high h) (go (leb low v))
  where
    go : (t : Bool) → both t false ≡ false
    go true = refl
    go false = refl

-- ---- an accepted step taken apart: f gets what it came from

pub bind_ok {ℓ} : {A B : Type 0} {X : Type ℓ} (p : P A) (k : A → P B) (b : Bits) (at e o : ℕ) {v : B} {to : ℕ} → run (p >>= k) b at e o ≡ ok v to
    → ((a : A) (mid : ℕ) → run p b at e o ≡ ok a mid → run (k a) b mid e o ≡ ok v to → X) → X
unfolding run
bind_ok p k b at e o h f = let t = and_then_ok (run p b at e o) (λ a mid. run (k a) b mid e o) h in f t.0 t.1 t.2 t.3

pub within_ok {ℓ} : {A : Type 0} {X : Type ℓ} (n back : ℕ) (p : P A) (b : Bits) (at e o : ℕ) {v : A} {to : ℕ} → run (within n back p) b at e o ≡ ok v to
    → ((mid : ℕ) → at + n ≤ e → run p b at (at + n) past_declared ≡ ok v mid → to ≡ at + n → X) → X
unfolding run
within_ok n back p b at e o {v} h f =
    let g = pick_ok (leb (at + n) e) (and_then (run p b at (at + n) past_declared) (λ a mid. ok a (at + n))) o (at - back) (at + n - e) h in
    let t = and_then_ok (run p b at (at + n) past_declared) (λ a mid. ok a (at + n)) g.1 in
    f t.1 (leb-true (at + n) e g.0) (t.2 ∙ ap (λ (x : _). ok x t.1) (value t.3)) (sym (next t.3))

pub field_ok : {A : Type 0} (w : ℕ) (f : List ℕ → A) (b : Bits) (at e o : ℕ) {v : A} {to : ℕ} → run (field w f) b at e o ≡ ok v to
    → (at + w ≤ e) × (f (slice b at w) ≡ v) × (to ≡ at + w)
unfolding run
field_ok w f b at e o h =
    let g = pick_ok (leb (at + w) e) (ok (f (slice b at w)) (at + w)) o at (at + w - e) h in
    (leb-true (at + w) e g.0, value g.1, sym (next g.1))

pub give_ok : {A : Type 0} (a : A) (b : Bits) (at e o : ℕ) {v : A} {to : ℕ} → run (give a) b at e o ≡ ok v to → (a ≡ v) × (to ≡ at)
unfolding run
give_ok a b at e o h = (value h, sym (next h))

-- ---- a refused step taken apart

pub bind_no {ℓ} : {A B : Type 0} {X : Type ℓ} (p : P A) (k : A → P B) (b : Bits) (at e o : ℕ) {r pl m : ℕ} → run (p >>= k) b at e o ≡ no r pl m
    → (run p b at e o ≡ no r pl m → X) → ((a : A) (mid : ℕ) → run p b at e o ≡ ok a mid → run (k a) b mid e o ≡ no r pl m → X) → X
unfolding run
bind_no {A} {B} {X} p k b at e o {r} {pl} {m} h f g = go (run p b at e o) refl h
  where
    go : (x : Res A) → run p b at e o ≡ x → and_then x (λ a mid. run (k a) b mid e o) ≡ no r pl m → X
    go (ok a mid) q z = g a mid q z
    go (no s ql n) q z = f (cc)

pub within_no {ℓ} : {A : Type 0} {X : Type ℓ} (n back : ℕ) (p : P A) (b : Bits) (at e o : ℕ) {r pl m : ℕ} → run (within n back p) b at e o ≡ no r pl m
    → (at + n ≤ e → run p b at (at + n) past_declared ≡ no r pl m → X) → (r ≡ o → pl ≡ at - back → X) → X
unfolding run
within_no {A} {X} n back p b at e o {r} {pl} {m} h f g = go (leb (at + n) e) refl (run p b at (at + n) past_declared) refl h
  where
    go : (t : Bool) → leb (at + n) e ≡ t → (x : Res A) → run p b at (at + n) past_declared ≡ x
        → pick t (and_then x (λ a mid. ok a (at + n))) (no o (at - back) (at + n - e)) ≡ no r pl m → X
    go true q (ok a mid) w z = absurd (no_ok (sym z))
    go true q (no s ql i) w z = f (leb-true (at + n) e q) (cc)
    go false q x w z = g (place z).0 (place z).1

pub field_no : {A : Type 0} (w : ℕ) (f : List ℕ → A) (b : Bits) (at e o : ℕ) {r pl m : ℕ} → run (field w f) b at e o ≡ no r pl m → (r ≡ o) × (pl ≡ at)
unfolding run
field_no {A} w f b at e o {r} {pl} {m} h = go (leb (at + w) e) h
  where
    go : (t : Bool) → pick t (ok (f (slice b at w)) (at + w)) (no o at (at + w - e)) ≡ no r pl m → (r ≡ o) × (pl ≡ at)
    go true z = absurd (no_ok (sym z))
    go false z = place z

pub refuse_no : {A : Type 0} (q back : ℕ) (b : Bits) (at e o : ℕ) {r pl m : ℕ} → run (refuse {A = A} q back) b at e o ≡ no r pl m → (r ≡ q) × (pl ≡ at - back)
unfolding run
refuse_no q back b at e o h = place h

pub give_no : {A : Type 0} (a : A) (b : Bits) (at e o : ℕ) {r pl m : ℕ} → run (give a) b at e o ≡ no r pl m → ⊥
unfolding run
give_no a b at e o h = no_ok (sym h)

-- ---- a step put together

pub give_is : {A : Type 0} (a : A) (b : Bits) (at e o : ℕ) → run (give a) b at e o ≡ ok a at
unfolding run
give_is a b at e o = refl

pub bind_is : {A B : Type 0} (p : P A) (k : A → P B) (b : Bits) (at e o : ℕ) {a : A} {mid : ℕ} → run p b at e o ≡ ok a mid
    → run (p >>= k) b at e o ≡ run (k a) b mid e o
unfolding run
bind_is p k b at e o h = rw h

pub within_is : {A : Type 0} (n back : ℕ) (p : P A) (b : Bits) (at e o : ℕ) → at + n ≤ e
    → run (within n back p) b at e o ≡ and_then (run p b at (at + n) past_declared) (λ a mid. ok a (at + n))
unfolding run
within_is n back p b at e o l = rw (le-leb (at + n) e l)

pub field_is : {A : Type 0} (w : ℕ) (f : List ℕ → A) (b : Bits) (at e o : ℕ) → at + w ≤ e → run (field w f) b at e o ≡ ok (f (slice b at w)) (at + w)
unfolding run
field_is w f b at e o l = rw (le-leb (at + w) e l)

-- a refused step refuses the line, and what is refused inside an element refuses it
pub bind_stops : {A B : Type 0} (p : P A) (k : A → P B) (b : Bits) (at e o : ℕ) {r pl m : ℕ} → run p b at e o ≡ no r pl m
    → run (p >>= k) b at e o ≡ no r pl m
unfolding run
bind_stops p k b at e o h = rw h

pub within_stops : {A : Type 0} (n back : ℕ) (p : P A) (b : Bits) (at e o : ℕ) {r pl m : ℕ} → at + n ≤ e → run p b at (at + n) past_declared ≡ no r pl m
    → run (within n back p) b at e o ≡ no r pl m
within_stops n back p b at e o l h = within_is n back p b at e o l ∙ rw h

-- ---- slices

pub slice_get : (b : Bits) (at n i : ℕ) → i < n → b (at + i) ≡ get_or (slice b at n) i 0
unfolding slice
slice_get b at zero i h = absurd (omega arith)
slice_get b at (suc n) zero h = ap b (omega arith)
slice_get b at (suc n) (suc i) h = ap b (omega arith) ∙ slice_get b (suc at) n i (omega arith)

pub slice_at : (b : Bits) (at n i : ℕ) → i < n → b (at + i) ≡ listed (slice b at n) (0 + i)
slice_at b at n i h = slice_get b at n i h ∙ ap (λ (k : ℕ). get_or (slice b at n) k 0) (omega arith)

pub length-slice : (b : Bits) (at n : ℕ) → length (slice b at n) ≡ n
unfolding slice
length-slice b at zero = refl
length-slice b at (suc n) = ap suc (length-slice b (suc at) n)
