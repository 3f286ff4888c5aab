-- Windows looked at: laws for fields that are there or not, for several fields of one look, and for what stands in several windows.
use mathlib.Core.Path.{◌≡◌, sym, ap, subst, subst₂, ◌∙◌}
use mathlib.Core.Bool.{Bool, true, false, true≢false}
use Prim.Native.Nat.{ℕ, ◌+◌, ◌-◌, ◌*◌, ◌/◌, ◌%◌, ◌^◌, ◌≤◌}
use native.Mathlib.Omega.{arith}
use native.Mathlib.Nat.{mul_assoc}
use lib.Dec.{ltb}
use lib.Pow.{pow-add, shl-shr, shr-shr, field, mod-mod-pow}
use borrow.Author.Tests.{ltb-true, ltb-false, le-leb}
use Rattle.bits.specs.declared.Refusal.TheVariants.{Reserved}
use Rattle.bits.specs.declared.Sighted.{Sighted}
use Rattle.bits.specs.Refusals.{number_of}
use Rattle.bits.specs.Language.{pick, both, ok, Bits, number, P, ◌>>=◌, run, bits, bits_if, refuse_if}
use Rattle.bits.specs.Steps.{no_ok, below_free, bind_ok, field_ok}
use Rattle.bits.specs.View.{looked, Sees, Freely, Looks, sight_of}
use Rattle.bits.proofs.Free.{free-bind, looks-give, looks-bits, looks-unless, ◌▹◌}
use Rattle.oamd.specs.Reserved.{Field, width_of, first_reserved, last_reserved, is_reserved, unreserved}
use Rattle.syntax.specs.Looks.{Shut}

-- ---- a field of which values are reserved, those at the end of its range

refused : (on : Bool) (r back v : ℕ) (b : Bits) (at e o : ℕ) {w to : ℕ} → on ≡ true → run (refuse_if on r back v) b at e o ≡ ok w to → ⊥
unfolding run
refused true r back v b at e o h q = no_ok q
refused false r back v b at e o h q = true≢false (sym h)

module _ (f : Field) {x o v to : ℕ} (s : Looks (bits (width_of f)) x o v to) where
  pub fair : ltb v (first_reserved f) ≡ true → Looks (unreserved f) x o v to
  fair g = s ▹ looks-unless (is_reserved f v) (number_of Reserved) (width_of f) v (below_free (first_reserved f) (last_reserved f) v (ltb-true _ _ g))

  pub shut : {A : Type 0} (k : ℕ → P A) → ltb v (first_reserved f) ≡ false → v ≤ last_reserved f → Shut (unreserved f >>= k) x o
  shut k g l =
      let w = width_of f in
      let reserved : is_reserved f v ≡ true = rw (le-leb (first_reserved f) v (ltb-false _ _ g), le-leb v (last_reserved f) l) in
      record {
        never = λ b base e r sees q.
            bind_ok (unreserved f) k b (base + o) e r q λ u mid p z.
            bind_ok (bits w) (λ n. refuse_if (is_reserved f n) (number_of Reserved) w n) b (base + o) e r p λ n at h y.
            let seen = (field_ok w number b (base + o) (base + to) r ((s.free b base sees).same (base + to) r (omega arith))).1 in
            let same : n ≡ v = sym (field_ok w number b (base + o) e r h).1 ∙ seen in
            refused (is_reserved f n) (number_of Reserved) w n b at e r (ap (is_reserved f) same ∙ reserved) y;
      }

-- ---- positions, and tests

-- a window begins with the byte of the position at which it is opened
pub entered : {n at : ℕ} → n ≡ at → 8 * (n / 8) + at % 8 ≡ at
entered e = omega arith

pub behind : {n at : ℕ} (off : ℕ) → n ≡ at → 8 * (n / 8) + off ≡ at - at % 8 + off
behind off e = omega arith

-- what was looked at in a window, by its positions
pub there : {A : Type 0} {p : P A} {x o off base at to : ℕ} {v : A} {b : Bits} → Looks p x o v off → Sees x b base → base + o ≡ at → base + off ≡ to
    → Freely p b at v to
there {p = p} {v = v} {b} f s e g = subst₂ (λ (i j : ℕ). Freely p b i v j) e g (f.free b _ s)

-- `first ⊳ second ⊳ .. ⊳ free-give`
infixr 20 ◌⊳◌
pub ◌⊳◌ : {A B : Type 0} {p : P A} {k : A → P B} {b : Bits} {at mid to : ℕ} {v : A} {w : B}
    → Freely p b at v mid → Freely (k v) b mid w to → Freely (p >>= k) b at w to
f ⊳ g = free-bind f g

-- a field that is there, and one that is not
pub sent : {on : Bool} {w x o v off : ℕ} → on ≡ true → Looks (bits w) x o v off → Looks (bits_if on w) x o v off
sent e s = rw e s

pub unsent : (w : ℕ) {on : Bool} {x o : ℕ} → on ≡ false → Looks (bits_if on w) x o 0 o
unsent w e = rw e looks-give

-- one that is there where a test holds, with what the test picks
pub sent_if : (on : Bool) {w x o v to : ℕ} → Looks (bits w) x o v to → Looks (bits_if on w) x o (pick on v 0) (pick on to o)
sent_if true s = s
sent_if false s = looks-give

-- what holds of both that a test picks from
pub whichever : (t : Bool) {a b n : ℕ} → a ≤ n → b ≤ n → pick t a b ≤ n
whichever true p q = p
whichever false p q = q

-- two tests joined
pub both_hold : {a b : Bool} → a ≡ true → b ≡ true → both a b ≡ true
both_hold p q = rw (p, q)

pub first-fails : {a : Bool} (b : Bool) → a ≡ false → both a b ≡ false
first-fails b p = rw p

pub second-fails : {a b : Bool} → a ≡ true → b ≡ false → both a b ≡ false
second-fails p q = rw (p, q)

-- ---- fields of one look

-- n bits of a + n + m that were looked at together
part : (x o a n m : ℕ) → o + (a + n + m) ≤ 64 → looked x o (a + n + m) / 2 ^ m % 2 ^ n ≡ looked x (o + a) n
part x o a n m h =
    let j = 64 - (a + n) in
    let z = x * 2 ^ o in
    let e₁ : 64 - (a + n + m) + m ≡ j = omega arith in
    let e₂ : 64 ≡ a + n + j = omega arith in
    let e₃ : 64 ≡ n + (64 - n) = omega arith in
    let e₄ : 64 - n ≡ a + j = omega arith in
    ap (λ (y : ℕ). y % 2 ^ n) (shr-shr (z % 2 ^ 64) (64 - (a + n + m)) m)
    ∙ ap (λ (k : ℕ). z % 2 ^ 64 / 2 ^ k % 2 ^ n) e₁
    ∙ ap (λ (k : ℕ). z % 2 ^ k / 2 ^ j % 2 ^ n) e₂
    ∙ ap (λ (y : ℕ). y % 2 ^ n) (field z (a + n) j)
    ∙ mod-mod-pow (z / 2 ^ j) a n
    ∙ ap (λ (y : ℕ). y / 2 ^ j % 2 ^ n) (sym (shl-shr z a))
    ∙ ap (λ (y : ℕ). y % 2 ^ n) (shr-shr (z * 2 ^ a) a j)
    ∙ ap (λ (k : ℕ). z * 2 ^ a / 2 ^ k % 2 ^ n) (sym e₄)
    ∙ ap (λ (y : ℕ). y / 2 ^ (64 - n) % 2 ^ n) (mul_assoc x (2 ^ o) (2 ^ a) ∙ ap (λ (y : ℕ). x * y) (sym (pow-add 2 o a)))
    ∙ sym (field (x * 2 ^ (o + a)) n (64 - n))
    ∙ ap (λ (k : ℕ). x * 2 ^ (o + a) % 2 ^ k / 2 ^ (64 - n)) (sym e₃)

-- behind a of them and before m; `last` where none follows
module _ {x : ℕ} {q : Sighted ℕ} (o : ℕ) where
  pub slot : (a n m at to : ℕ) → q ≡ sight_of x o (a + n + m) → o + (a + n + m) ≤ 64 → at ≡ o + a → to ≡ o + (a + n)
      → Looks (bits n) x at (q.value / 2 ^ m % 2 ^ n) to
  slot a n m at to e h p r =
      let v : q.value / 2 ^ m % 2 ^ n ≡ looked x (o + a) n = ap (λ (s : Sighted ℕ). s.value / 2 ^ m % 2 ^ n) e ∙ part x o a n m h in
      let g : o + a + n ≡ to = omega arith in
      subst₂ (λ (i j : ℕ). Looks (bits n) x i (q.value / 2 ^ m % 2 ^ n) j) (sym p) g (looks-bits v (omega arith))

  -- the first of them, in full
  pub lead : (n m : ℕ) → q ≡ sight_of x o (n + m) → o + (n + m) ≤ 64 → Looks (bits n) x o (q.value / 2 ^ m) (o + n)
  lead n m e h =
      let g : 64 - (n + m) + m ≡ 64 - n = omega arith in
      let v : q.value / 2 ^ m ≡ looked x o n =
      ap (λ (s : Sighted ℕ). s.value / 2 ^ m) e ∙ shr-shr (x * 2 ^ o % 2 ^ 64) (64 - (n + m)) m ∙ ap (λ (k : ℕ). x * 2 ^ o % 2 ^ 64 / 2 ^ k) g in
      looks-bits v (omega arith)

  pub last : (a n at : ℕ) → q ≡ sight_of x o (a + n) → o + (a + n) ≤ 64 → at ≡ o + a → Looks (bits n) x at (q.value % 2 ^ n) q.off
  last a n at e h p =
      let z : a + n + 0 ≡ a + n = omega arith in
      let one : q.value / 1 ≡ q.value = omega arith in
      subst (λ (y : ℕ). Looks (bits n) x at (y % 2 ^ n) q.off) one
      (slot a n 0 at q.off (e ∙ ap (sight_of x o) (sym z)) (omega arith) p (ap (λ (s : Sighted ℕ). s.off) e))
