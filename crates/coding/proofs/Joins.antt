-- The laws of packing: a field behind the bits that stand, one behind the other, and a field that may be absent. Assumes nothing.
use mathlib.Core.Path.{◌≡◌, sym, ap, ap₂, ◌∙◌, subst}
use mathlib.Core.Bool.{Bool, true, false}
use mathlib.Core.List.{List, ◌++◌, append_assoc, append-nil}
use Prim.Native.Nat.{ℕ, suc, ◌+◌, ◌-◌, ◌*◌, ◌/◌, ◌%◌, ◌^◌, ◌≤◌, ◌<◌}
use native.Mathlib.Nat.{mod-eq_of_lt, lt_of_lt_of_le, pow-le-pow_right, zero-lt-suc}
use native.Mathlib.Omega.{arith}
use lib.Arith.{digits_lt}
use lib.ListN.{length, length-append}
use lib.Pow.{shl-shr, shl_exact, field, pow-add}
use Rattle.bits.specs.Language.{number, pick}
use Rattle.bits.specs.Writes.{to_bits, only}
use Rattle.bits.specs.Lists.{length-to_bits, number-to_bits, binary-to_bits, binary-append, bits-number, number_append}
use Rattle.coding.specs.declared.Packed.{Packed}
use Rattle.coding.specs.Packing.{widest_packed, Packs, PacksIn, Room, Whole, Behind}

-- shifting up and down leaves the low w bits
pub low_bits : (w v : ℕ) → w ≤ 64 → v * 2 ^ (64 - w) % 2 ^ 64 / 2 ^ (64 - w) ≡ v % 2 ^ w
low_bits w v h =
    let e : 64 ≡ w + (64 - w) = omega arith in
    ap (λ (k : ℕ). v * 2 ^ (64 - w) % 2 ^ k / 2 ^ (64 - w)) e
    ∙ field (v * 2 ^ (64 - w)) w (64 - w)
    ∙ ap (λ (y : ℕ). y % 2 ^ w) (shl-shr v (64 - w))

-- the low bits of a number are its bits
pub same_bits : (w v : ℕ) → to_bits w (v % 2 ^ w) ≡ to_bits w v
same_bits w v = ap₂ to_bits (sym (length-to_bits w v)) (sym (number-to_bits w v)) ∙ bits-number (to_bits w v) (binary-to_bits w v)

-- v, which n bits hold, behind the w bits of u
module _ (w n u v : ℕ) (small : u < 2 ^ w) (few : v < 2 ^ n) where
  pub joined-bits : to_bits (w + n) (u * 2 ^ n + v) ≡ to_bits w u ++ to_bits n v
  joined-bits =
      let l : List ℕ = to_bits w u ++ to_bits n v in
      let a : w + n ≡ length l = omega (arith, length-append (to_bits w u) (to_bits n v), length-to_bits w u, length-to_bits n v) in
      let b : number l ≡ u * 2 ^ n + v =
      number_append (to_bits w u) (to_bits n v) ∙ rw (number-to_bits w u, number-to_bits n v, length-to_bits n v, mod-eq_of_lt small, mod-eq_of_lt few) in
      ap₂ to_bits a (sym b) ∙ bits-number l (binary-append (to_bits w u) (to_bits n v) (binary-to_bits w u) (binary-to_bits n v))

  pub joined_small : u * 2 ^ n + v < 2 ^ (w + n)
  joined_small = subst (λ (k : ℕ). u * 2 ^ n + v < k) (sym (pow-add 2 w n)) (digits_lt small few)

-- what `pack_whole` computes
module _ (w v : ℕ) (p : Packed) (h : Whole w v p) where
  abbrev sum : ℕ
  sum = p.value * 2 ^ w % 2 ^ 64 + v

  sum_is : sum ≡ p.value * 2 ^ w + v
  sum_is = ap (λ (x : ℕ). x + v) (shl_exact p.width.0 w 64 h.room.small (omega arith))

  -- below 2^56, so below 2^64
  pub sum_fits : sum < 2 ^ 64
  sum_fits =
      let under : p.value * 2 ^ w + v < 2 ^ widest_packed =
      lt_of_lt_of_le (joined_small p.width.0 w p.value v h.room.small h.all) (pow-le-pow_right (zero-lt-suc 1) h.room.fits) in
      rw sum_is (omega arith)

  pub sum-behind : (r : Packed) → r.width.0 ≡ p.width.0 + w → r.value ≡ sum → Behind w w p r (to_bits w v)
  sum-behind r width value = record {
    same = ap₂ to_bits width (value ∙ sum_is) ∙ joined-bits p.width.0 w p.value v h.room.small h.all;
    small = rw (width, value, sum_is) (joined_small p.width.0 w p.value v h.room.small h.all);
    least = omega arith;
    most = omega arith;
  }

-- ---- for the functions that pack one after the other

-- `first ▸ second ▸ .. ▸ last`: one behind the other
infixr 20 ◌▸◌
pub ◌▸◌ : {i j h k : ℕ} {p q r : Packed} {l m : List ℕ} → Behind i j p q l → Behind h k q r m → Behind (i + h) (j + k) p r (l ++ m)
◌▸◌ {p = p} {l = l} {m} f g = record {
  same = g.same ∙ ap (λ (x : List ℕ). x ++ m) f.same ∙ append_assoc (to_bits p.width.0 p.value) l m;
  small = g.small;
  least = omega arith;
  most = omega arith;
}

-- `start ▹ first ▸ .. ▸ last`: behind bits that are known
infixr 19 ◌▹◌
pub ◌▹◌ : {i j h k : ℕ} {p r : Packed} {l m : List ℕ} → PacksIn i j p l → Behind h k p r m → PacksIn (i + h) (j + k) r (l ++ m)
◌▹◌ {m = m} f g = record {
  packs = record { same = g.same ∙ ap (λ (x : List ℕ). x ++ m) f.packs.same; small = g.small };
  least = omega arith;
  most = omega arith;
}

-- some bits, however many at the least
pub nonempty : {i j : ℕ} {p : Packed} {l : List ℕ} → PacksIn (suc i) j p l → PacksIn 1 j p l
nonempty h = record { packs = h.packs; least = omega arith; most = h.most }

-- the same bits, said in another way
pub behind_is : {i j : ℕ} {p r : Packed} {l m : List ℕ} → l ≡ m → Behind i j p r l → Behind i j p r m
behind_is {i} {j} {p} {r} e h = subst (λ (x : List ℕ). Behind i j p r x) e h

pub packs_is : {i j : ℕ} {p : Packed} {l m : List ℕ} → l ≡ m → PacksIn i j p l → PacksIn i j p m
packs_is {i} {j} {p} e h = subst (λ (x : List ℕ). PacksIn i j p x) e h

-- the same bits, under another name for their test
pub behind_only : {i j : ℕ} {p r : Packed} {on test : Bool} (l : List ℕ) → on ≡ test → Behind i j p r (only on l) → Behind i j p r (only test l)
behind_only l e h = behind_is (ap (λ (b : Bool). only b l) e) h

-- bits where a test holds: there they are, or nothing is
pub behind_if : {i j n : ℕ} {p q r : Packed} {l : List ℕ} (on : Bool) → Room n p → Behind i j p q l → r ≡ pick on q p → Behind 0 j p r (only on l)
behind_if true room h e = rw e (record { same = h.same; small = h.small; least = omega arith; most = h.most })
behind_if {p = p} false room h e = rw e (record {
  same = sym (append-nil (to_bits p.width.0 p.value));
  small = room.small;
  least = omega arith;
  most = omega arith;
})

pub packs-length : {p : Packed} {l : List ℕ} → Packs p l → p.width.0 ≡ length l
packs-length {p} h = sym (length-to_bits p.width.0 p.value) ∙ ap length h.same

-- two numbers that pack the same bits are the same
pub one-packed : (p q : Packed) (l : List ℕ) → Packs p l → Packs q l → (p.width.0 ≡ q.width.0) × (p.value ≡ q.value)
one-packed p q l f g =
    let n : p.width.0 ≡ q.width.0 = packs-length f ∙ sym (packs-length g) in
    let value : (r : Packed) → Packs r l → number l ≡ r.value =
    λ r h. sym (ap number h.same) ∙ number-to_bits r.width.0 r.value ∙ mod-eq_of_lt h.small in
    (n, sym (value p f) ∙ value q g)
