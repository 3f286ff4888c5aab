-- The law over the width: four bytes from the byte of position p, moved left by p % 8 and then right by 32 - w, are the value of the w bits from p.
use mathlib.Core.Path.{◌≡◌, sym, ap, subst, ◌∙◌}
use mathlib.Core.List.{List}
use Prim.Native.Nat.{ℕ, zero, suc, ◌+◌, ◌-◌, ◌*◌, ◌/◌, ◌%◌, ◌^◌, ◌≤◌, ◌<◌}
use native.Mathlib.Nat.{mod-one, add-zero, mod-lt, pow-suc}
use native.Mathlib.Numerals.{add-one}
use native.Mathlib.Omega.{arith}
use lib.Dec.{lit<}
use lib.ListN.{get_or}
use lib.Pow.{pow_pos, shr_lt, high, shr-shr, shl-shr, field, mod-mod-pow, mod-pow-add}
use Rattle.bits.specs.Language.{widest_field, Bits, slice, number, bit}
use Rattle.bits.specs.Steps.{length-slice, by_order}
use Rattle.bits.specs.View.{word_at, wide_at, Sees, looked}

-- a bit more at the low end
number-snoc : (b : Bits) (at i : ℕ) → number (slice b at (suc i)) ≡ number (slice b at i) * 2 + b (at + i)
unfolding slice number
number-snoc b at zero =
    let e : b at ≡ b (at + 0) = ap b (omega arith) in
    omega arith
number-snoc b at (suc i) =
    let ih = rw (length-slice b (suc (suc at)) i) at (number-snoc b (suc at) i) in
    let e : b (suc at + i) ≡ b (at + suc i) = ap b (omega arith) in
    let q = ap (λ (n : ℕ). b at * n) (pow-suc 2 i) in
    rw (length-slice b (suc (suc at)) i, length-slice b (suc at) i) (omega arith)

-- the value of the w bits from p
abbrev bits_at : List ℕ → ℕ → ℕ → ℕ
bits_at s p w = number (slice (bit s) p w)

bits_none : (s : List ℕ) (p : ℕ) → bits_at s p 0 ≡ 0
unfolding slice number
bits_none s p = omega arith

-- a bit of the lowest byte of y, its top bit counted as 0, is a bit of y
low_bit : (y m : ℕ) → m ≤ 7 → y % 256 / 2 ^ (7 - m) % 2 ≡ y / 2 ^ (7 - m) % 2
low_bit y m h =
    ap (λ (k : ℕ). y % 2 ^ k / 2 ^ (7 - m) % 2) (let e : 8 ≡ m + 1 + (7 - m) = omega arith in e)
    ∙ ap (λ (x : ℕ). x % 2) (field y (m + 1) (7 - m))
    ∙ mod-mod-pow (y / 2 ^ (7 - m)) m 1

-- n bytes from byte i on, as the number x
module _ (s : List ℕ) (n x i : ℕ) (part : (j : ℕ) → j < n → x / 2 ^ (8 * (n - 1 - j)) % 256 ≡ get_or s (i + j) 0) where
  -- bit q of them
  bit-of : (q : ℕ) → q < 8 * n → bit s (8 * i + q) ≡ x / 2 ^ (8 * n - 1 - q) % 2
  unfolding bit
  bit-of q h =
      let j = q / 8 in
      let m = q % 8 in
      let e : (8 * i + q) / 8 ≡ i + j = omega arith in
      let f : (8 * i + q) % 8 ≡ m = omega arith in
      let g : 8 * (n - 1 - j) + (7 - m) ≡ 8 * n - 1 - q = omega arith in
      ap (λ (k : ℕ). get_or s k 0 / 2 ^ (7 - (8 * i + q) % 8) % 2) e
      ∙ ap (λ (k : ℕ). get_or s (i + j) 0 / 2 ^ (7 - k) % 2) f
      ∙ ap (λ (b : ℕ). b / 2 ^ (7 - m) % 2) (sym (part j (omega arith)))
      ∙ low_bit (x / 2 ^ (8 * (n - 1 - j))) m (omega arith)
      ∙ ap (λ (y : ℕ). y % 2) (shr-shr x (8 * (n - 1 - j)) (7 - m))
      ∙ ap (λ (k : ℕ). x / 2 ^ k % 2) g

  -- w bits of them, o bits behind the first
  bits_of : (o w : ℕ) → o + w ≤ 8 * n → bits_at s (8 * i + o) w ≡ x / 2 ^ (8 * n - (o + w)) % 2 ^ w
  bits_of o zero h = bits_none s (8 * i + o) ∙ sym (mod-one _)
  bits_of o (suc w) h =
      let y = x / 2 ^ (8 * n - 1 - (o + w)) in
      let e : 8 * n - 1 - (o + w) + 1 ≡ 8 * n - (o + w) = omega arith in
      let f : 8 * n - 1 - (o + w) ≡ 8 * n - (o + suc w) = omega arith in
      let g : 8 * i + o + w ≡ 8 * i + (o + w) = omega arith in
      number-snoc (bit s) (8 * i + o) w
      ∙ ap (λ (z : ℕ). z * 2 + bit s (8 * i + o + w)) (bits_of o w (omega arith))
      ∙ ap (λ (z : ℕ). x / 2 ^ (8 * n - (o + w)) % 2 ^ w * 2 + z) (ap (bit s) g ∙ bit-of (o + w) (omega arith))
      ∙ ap (λ (z : ℕ). z % 2 ^ w * 2 + y % 2) (ap (λ (k : ℕ). x / 2 ^ k) (sym e) ∙ sym (shr-shr x (8 * n - 1 - (o + w)) 1))
      ∙ sym (mod-pow-add y w 1)
      ∙ ap (λ (k : ℕ). y % 2 ^ k) (add-one w)
      ∙ ap (λ (k : ℕ). x / 2 ^ k % 2 ^ suc w) f

  -- what two shifts leave of them
  seen : (o w : ℕ) → o + w ≤ 8 * n → x * 2 ^ o % 2 ^ (8 * n) / 2 ^ (8 * n - w) ≡ bits_at s (8 * i + o) w
  seen o w h =
      let e : 8 * n ≡ w + (8 * n - w) = omega arith in
      let f : 8 * n - w ≡ o + (8 * n - (o + w)) = omega arith in
      ap (λ (k : ℕ). x * 2 ^ o % 2 ^ k / 2 ^ (8 * n - w)) e
      ∙ field (x * 2 ^ o) w (8 * n - w)
      ∙ ap (λ (k : ℕ). x * 2 ^ o / 2 ^ k % 2 ^ w) f
      ∙ ap (λ (y : ℕ). y % 2 ^ w) (sym (shr-shr (x * 2 ^ o) o (8 * n - (o + w))) ∙ ap (λ (y : ℕ). y / 2 ^ (8 * n - (o + w))) (shl-shr x o))
      ∙ sym (bits_of o w h)

module _ (s : List ℕ) (bytes : (i : ℕ) → get_or s i 0 < 256) where
  -- byte j of the word
  word_byte : (i j : ℕ) → j < 4 → word_at s i / 2 ^ (8 * (3 - j)) % 256 ≡ get_or s (i + j) 0
  word_byte i zero h = rw (add-zero i) (omega (arith, bytes i, bytes (i + 1), bytes (i + 2), bytes (i + 3)))
  word_byte i (suc zero) h = omega (arith, bytes i, bytes (i + 1), bytes (i + 2), bytes (i + 3))
  word_byte i (suc (suc zero)) h = omega (arith, bytes i, bytes (i + 1), bytes (i + 2), bytes (i + 3))
  word_byte i (suc (suc (suc zero))) h = omega (arith, bytes i, bytes (i + 1), bytes (i + 2), bytes (i + 3))
  word_byte i (suc (suc (suc (suc j)))) h = omega arith

  word_lt : (i : ℕ) → word_at s i < 4294967296
  word_lt i = omega (arith, bytes i, bytes (i + 1), bytes (i + 2), bytes (i + 3))

  -- byte j of two words
  wide-byte : (i j : ℕ) → j < 8 → wide_at s i / 2 ^ (8 * (7 - j)) % 256 ≡ get_or s (i + j) 0
  wide-byte i j h =
      by_order 4 j
      (λ g.
      let e : 8 * (7 - j) ≡ 8 * (3 - (j - 4)) = omega arith in
      let f : i + 4 + (j - 4) ≡ i + j = omega arith in
      ap (λ (k : ℕ). wide_at s i / 2 ^ k % 256) e
      ∙ low_part (word_at s i) (word_at s (i + 4)) (j - 4) (omega arith)
      ∙ word_byte (i + 4) (j - 4) (omega arith)
      ∙ ap (λ (k : ℕ). get_or s k 0) f)
      (λ g.
      let e : 8 * (7 - j) ≡ 32 + 8 * (3 - j) = omega arith in
      ap (λ (k : ℕ). wide_at s i / 2 ^ k % 256) e
      ∙ ap (λ (y : ℕ). y % 256) (sym (shr-shr (wide_at s i) 32 (8 * (3 - j))))
      ∙ ap (λ (y : ℕ). y / 2 ^ (8 * (3 - j)) % 256) (high (word_at s i) 32 (word_lt (i + 4)))
      ∙ word_byte i j (omega arith))
    where
      low_part : (a b j : ℕ) → j < 4 → (a * 4294967296 + b) / 2 ^ (8 * (3 - j)) % 256 ≡ b / 2 ^ (8 * (3 - j)) % 256
      low_part a b zero h = omega arith
      low_part a b (suc zero) h = omega arith
      low_part a b (suc (suc zero)) h = omega arith
      low_part a b (suc (suc (suc zero))) h = omega arith
      low_part a b (suc (suc (suc (suc j)))) h = omega arith

  -- what the two shifts leave of x, the word at the byte of p
  pub shifted : (p w x : ℕ) → w ≤ widest_field → x ≡ word_at s (p / 8) → x * 2 ^ (p % 8) % 2 ^ 32 / 2 ^ (32 - w) ≡ number (slice (bit s) p w)
  shifted p w x h q =
      let g : 8 * (p / 8) + p % 8 ≡ p = omega arith in
      ap (λ (y : ℕ). y * 2 ^ (p % 8) % 2 ^ 32 / 2 ^ (32 - w)) q
      ∙ seen s 4 (word_at s (p / 8)) (p / 8) (word_byte (p / 8)) (p % 8) w (omega arith)
      ∙ ap (λ (k : ℕ). bits_at s k w) g

  -- and of two words
  pub sighted : (i x : ℕ) → x ≡ wide_at s i → Sees x (bit s) (8 * i)
  sighted i x q =
      record {
        sight = λ o n h. ap (λ (y : ℕ). y * 2 ^ o % 2 ^ 64 / 2 ^ (64 - n)) q ∙ seen s 8 (wide_at s i) i (wide-byte i) o n h;
      }

-- w bits are below 2 ^ w
pub bits_lt : (s : List ℕ) (p w : ℕ) → number (slice (bit s) p w) < 2 ^ w
unfolding bit
bits_lt s p zero = rw (bits_none s p) (lit< tt)
bits_lt s p (suc w) =
    rw (number-snoc (bit s) p w, pow-suc) (omega (arith, bits_lt s p w, mod-lt (get_or s ((p + w) / 8) 0 / 2 ^ (7 - (p + w) % 8)) {m = 2} (lit< tt)))

-- what is looked at fits its width
pub looked_lt : (x o n : ℕ) → n ≤ 64 → looked x o n < 2 ^ n
looked_lt x o n h =
    let e : n + (64 - n) ≡ 64 = omega arith in
    shr_lt n (64 - n) (subst (λ (k : ℕ). x * 2 ^ o % 2 ^ 64 < 2 ^ k) (sym e) (mod-lt (x * 2 ^ o) (pow_pos 64)))
