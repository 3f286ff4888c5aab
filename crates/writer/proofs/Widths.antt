-- How many bits: of one part behind the other, of a part that may be absent, of packed bits, and of a loop's entries. Assumes nothing.
use mathlib.Core.Path.{◌≡◌, sym, ap, ◌∙◌, subst}
use mathlib.Core.Bool.{Bool, true}
use mathlib.Core.List.{List, [], ◌++◌}
use Prim.Native.Nat.{ℕ, ◌+◌, ◌%◌, ◌≤◌, ◌<◌}
use native.Mathlib.Omega.{arith}
use lib.ListN.{length, length-append}
use Rattle.bits.specs.Writes.{only, to_bits}
use Rattle.bits.specs.Lists.{length-to_bits}
use Rattle.coding.specs.declared.Packed.{Packed}
use Rattle.coding.specs.Packing.{PacksIn}
use Rattle.coding.proofs.Joins.{packs-length}
use Rattle.laying.specs.declared.Pen.{Pen}
use Rattle.laying.specs.Laying.{Laid}
use Rattle.laying.proofs.Laws.{laid_is, laid-within}
use Rattle.writer.specs.Parts.{Wide}

-- a sum of counts that are not long does not wrap
pub wide-bind : {k n a b r : ℕ} {l m : List ℕ} → Wide k a l → Wide n b m → k + n < 4294967296 → r ≡ (a + b) % 4294967296 → Wide (k + n) r (l ++ m)
wide-bind {l = l} {m} f g h e =
    record { same = omega (arith, f.same, f.most, g.same, g.most, length-append l m); most = omega (arith, f.most, g.most) }

-- a field, one part behind the other, and their count under another name
pub wide-field : (w v : ℕ) → Wide w w (to_bits w v)
wide-field w v = record { same = sym (length-to_bits w v); most = omega arith }

pub wide-behind : {k n a b : ℕ} {l m : List ℕ} → Wide k a l → Wide n b m → Wide (k + n) (a + b) (l ++ m)
wide-behind {l = l} {m} f g = record { same = omega (arith, f.same, g.same, length-append l m); most = omega (arith, f.most, g.most) }

pub wide-count : {k n r : ℕ} {l : List ℕ} → n ≡ r → Wide k n l → Wide k r l
wide-count {k} {l = l} e h = subst (λ (x : ℕ). Wide k x l) e h

pub wide_is : {k n : ℕ} {l m : List ℕ} → l ≡ m → Wide k n l → Wide k n m
wide_is {k} {n} e h = subst (λ (x : List ℕ). Wide k n x) e h

pub wide-within : {k j n : ℕ} {l : List ℕ} → k ≤ j → Wide k n l → Wide j n l
wide-within e h = record { same = h.same; most = omega (arith, h.most) }

-- a part that may be absent
pub wide-on : {k n : ℕ} {l : List ℕ} {on : Bool} → on ≡ true → Wide k n l → Wide k n (only on l)
wide-on e h = rw e h

-- what is promised of packed bits: what they are, and how wide
module _ {i k : ℕ} {p : Packed} {l : List ℕ} (h : PacksIn i k p l) where
  pub packed-wide : Wide k p.width.0 l
  packed-wide = record { same = packs-length h.packs; most = h.most }

  pub at_most : PacksIn 0 k p l
  at_most = record { packs = h.packs; least = omega arith; most = h.most }

  pub packed-laid : {s t : List ℕ} {at r : Pen} → Laid p.width.0 s t at r (to_bits p.width.0 p.value) → Laid k s t at r l
  packed-laid g = laid-within h.most (laid_is h.packs.same g)

-- a loop's invariant: n bits are counted, k at the most, and m is left of l
pub record Counted (k n : ℕ) (l m : List ℕ) : Type 0 where
  pub same : n + length m ≡ length l
  pub most : n ≤ k

pub counted_start : {k n : ℕ} {l m : List ℕ} → n ≡ 0 → m ≡ l → Counted k n l m
counted_start e f = record { same = omega (arith, e, ap length f); most = omega arith }

pub counted_step : {k w j n b r : ℕ} {l m a c : List ℕ} → k + w ≤ j → j < 4294967296 → m ≡ a ++ c → Counted k n l m → Wide w b a → r ≡ (n + b) % 4294967296
    → Counted j r l c
counted_step {a = a} {c} h i e f g d =
    let all : _ = ap length e ∙ length-append a c in
    record { same = omega (arith, all, f.same, f.most, g.same, g.most); most = omega (arith, f.most, g.most) }

pub counted_end : {k j n : ℕ} {l m : List ℕ} → k ≤ j → m ≡ [] → Counted k n l m → Wide j n l
counted_end h e f = record { same = omega (arith, f.same, ap length e); most = omega (arith, f.most) }
