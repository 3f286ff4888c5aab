-- Parts laid one after the other by their numbers: those of an array, and those of bytes in which they stand a step apart. Assumes nothing.
use mathlib.Core.Path.{◌≡◌, refl, sym, ap, ◌∙◌}
use mathlib.Core.Bool.{Bool, true, false}
use mathlib.Core.List.{List, [], ◌∷◌, ◌++◌, append_assoc, append-nil}
use Prim.Native.Nat.{ℕ, zero, suc, ◌+◌, ◌*◌, ◌%◌, ◌≤◌, ◌<◌}
use native.Mathlib.Nat.{mul-zero, mul-suc, mul-le-mul_left}
use native.Mathlib.Numerals.{add-one}
use native.Mathlib.Omega.{arith}
use lib.ListN.{length, get_or, take}
use Rattle.std.proofs.Common.{length-take-le, take_all}
use lib.Seq.{take-suc}
use Rattle.bits.specs.Language.{pick}
use Rattle.bits.specs.Writes.{to_bits, only, each_bits}
use Rattle.coding.specs.declared.Packed.{Packed}
use Rattle.coding.specs.Packing.{PacksIn}
use Rattle.laying.specs.declared.Pen.{Pen}
use Rattle.laying.specs.Laying.{Laid, widest_put, most_position}
use Rattle.laying.proofs.Laws.{laid_is, laid-within, laid-bind, laid_nil}
use Rattle.writer.specs.Parts.{Wide, bits_below, PacksEach, Packable}
use Rattle.writer.proofs.Widths.{wide_is, wide-within, wide-bind, packed-laid, packed-wide}

-- ---- one part more

module _ (most : ℕ) (f : ℕ → List ℕ) where
  more_is : (i : ℕ) → bits_below f i ++ f i ≡ bits_below f (i + 1)
  unfolding bits_below
  more_is i = rw (add-one i) refl

  pub laid_none : {s : List ℕ} {p : Pen} → Laid (most * 0) s s p p (bits_below f 0)
  unfolding bits_below
  laid_none = laid-within (omega arith) laid_nil

  pub laid_more : {i : ℕ} {s t u : List ℕ} {p q v : Pen} {r : Packed} → Laid (most * i) s t p q (bits_below f i) → PacksIn 0 most r (f i)
      → Laid r.width.0 t u q v (to_bits r.width.0 r.value) → Laid (most * (i + 1)) s u p v (bits_below f (i + 1))
  laid_more {i} a h b =
      let e : most * i + most ≤ most * (i + 1) = omega (arith, mul-suc most i, ap (λ (k : ℕ). most * k) (add-one i)) in
      laid_is (more_is i) (laid-within e (laid-bind a (packed-laid h b)))

  pub wide_none : {n : ℕ} → n ≡ 0 → Wide (most * 0) n (bits_below f 0)
  unfolding bits_below
  wide_none e = record { same = e; most = omega (arith, e) }

  pub wide_more : {i n a b : ℕ} {r : Packed} → i < n → most * n < 4294967296 → Wide (most * i) a (bits_below f i) → PacksIn 0 most r (f i)
      → b ≡ (a + r.width.0) % 4294967296 → Wide (most * (i + 1)) b (bits_below f (i + 1))
  wide_more {i} {n} l few a h e =
      let m : most * i + most ≡ most * (i + 1) = omega (arith, mul-suc most i, ap (λ (k : ℕ). most * k) (add-one i)) in
      let o : most * (i + 1) ≤ most * n = mul-le-mul_left most (omega arith) in
      wide_is (more_is i) (wide-within (omega (arith, m)) (wide-bind a (packed-wide h) (omega arith) e))

-- n of them where a test holds
pub only_is : (f : ℕ → List ℕ) (on : Bool) (n : ℕ) → bits_below f (pick on n 0) ≡ only on (bits_below f n)
unfolding bits_below
only_is f true n = refl
only_is f false n = refl

-- ---- the same bits entry by entry

each_append : {Y : Type 0} (g : ℕ → Y → List ℕ) (i : ℕ) (xs ys : List Y) → each_bits g i (xs ++ ys) ≡ each_bits g i xs ++ each_bits g (i + length xs) ys
unfolding each_bits
each_append g i [] ys = ap (λ (k : ℕ). each_bits g k ys) (let e : i ≡ i + 0 = omega arith in e)
each_append g i (x ∷ xs) ys =
    ap (λ (l : List ℕ). g i x ++ l) (each_append g (suc i) xs ys)
    ∙ sym (append_assoc (g i x) (each_bits g (suc i) xs) (each_bits g (suc i + length xs) ys))
    ∙ ap (λ (k : ℕ). (g i x ++ each_bits g (suc i) xs) ++ each_bits g k ys) (let e : suc i + length xs ≡ i + suc (length xs) = omega arith in e)

module _ {Y : Type 0} (g : ℕ → Y → List ℕ) (xs : List Y) (d : Y) where
  -- the bits of the entry of a number
  abbrev pub entry_bits : ℕ → List ℕ
  entry_bits i = g i (get_or xs i d)

  pub entries_bits : (n : ℕ) → n ≤ length xs → bits_below entry_bits n ≡ each_bits g 0 (take n xs)
  unfolding bits_below each_bits
  entries_bits zero h = refl
  entries_bits (suc n) h =
      let x : Y = get_or xs n d in
      let e : 0 + length (take n xs) ≡ n = omega (arith, length-take-le n xs (omega arith)) in
      ap (λ (l : List ℕ). l ++ g n x) (entries_bits n (omega arith))
      ∙ sym (ap (each_bits g 0) (take-suc xs n d h) ∙ each_append g 0 (take n xs) (x ∷ [])
      ∙ ap (λ (l : List ℕ). each_bits g 0 (take n xs) ++ l) (ap (λ (k : ℕ). each_bits g k (x ∷ [])) e ∙ append-nil (g n x)))

-- ---- entries that are each packed by the number

pub pick_le : (on : Bool) {n m : ℕ} → n ≡ pick on m 0 → n ≤ m
pick_le true e = omega (arith, e)
pick_le false e = omega (arith, e)

-- of at most m
module _ {n m : ℕ} (few : n ≤ m) where
  pub packable : {post : ℕ → Packed → Type 0} {most at : ℕ} {f : ℕ → List ℕ} → PacksEach post most f n → most ≤ widest_put → at + most * m ≤ most_position
      → Packable post n at
  packable {most = most} {f = f} h w o = record {
    most = most;
    bits = f;
    parts = h;
    widest = w;
    room = omega (arith, o, mul-le-mul_left most few);
  }

  pub few_bits : (most : ℕ) → most * m < 4294967296 → most * n < 4294967296
  few_bits most h = omega (arith, h, mul-le-mul_left most few)

module _ {Y : Type 0} (g : Y → List ℕ) (xs : List Y) (d : Y) (item : ℕ → Y) {m : ℕ} (there : (i : ℕ) → i < m → get_or xs i d ≡ item i) where
  abbrev pub numbered : ℕ → List ℕ
  numbered = entry_bits (λ i y. g y) xs d

  -- some of them, by what is packed of each
  pub packs-each : {post : ℕ → Packed → Type 0} {most n : ℕ} → n ≤ m → ((i : ℕ) (r : Packed) → i < m → post i r → PacksIn 0 most r (g (item i)))
      → PacksEach post most numbered n
  packs-each few each = record { each = λ i r h e. rw (there i (omega (arith, h, few))) (each i r (omega (arith, h, few)) e) }

  -- all of them, where a test holds
  module _ (length-is : length xs ≡ m) where
    all_is : (on : Bool) → bits_below numbered (pick on m 0) ≡ only on (each_bits (λ i y. g y) 0 xs)
    all_is on =
        only_is numbered on m
        ∙ ap (only on) (entries_bits (λ i y. g y) xs d m (omega (arith, length-is)) ∙ ap (each_bits (λ i y. g y) 0) (take_all m xs (omega (arith, length-is))))

    within : (on : Bool) (most : ℕ) {n : ℕ} → n ≡ pick on m 0 → most * n ≤ most * m
    within true most e = rw e (omega arith)
    within false most e = rw (e, mul-zero most) (omega arith)

    pub all-laid : (on : Bool) (most : ℕ) {n : ℕ} {s t : List ℕ} {p r : Pen} → n ≡ pick on m 0 → Laid (most * n) s t p r (bits_below numbered n)
        → Laid (most * m) s t p r (only on (each_bits (λ i y. g y) 0 xs))
    all-laid on most e h = laid_is (ap (bits_below numbered) e ∙ all_is on) (laid-within (within on most e) h)

    pub all-wide : (on : Bool) (most : ℕ) {n k : ℕ} → n ≡ pick on m 0 → Wide (most * n) k (bits_below numbered n) → Wide (most * m) k (only on (each_bits (λ i y. g y) 0 xs))
    all-wide on most e h = wide_is (ap (bits_below numbered) e ∙ all_is on) (wide-within (within on most e) h)
