-- Bytes from bits, the first bit the top one: how many there are, that they hold these bits, and that bytes are those of their bits.
use Rattle.std.specs.Prelude.{◌≡◌, refl, List, ℕ, zero, suc, ◌+◌, ◌-◌, ◌*◌, ◌/◌, ◌%◌, ◌^◌, ◌≤◌, ◌<◌, length, get_or}
use Rattle.std.proofs.Common.{sym, ap, ◌∙◌, arith, mod-eq_of_lt, mod-lt, lit<, ext_get_or}
use Rattle.bits.specs.Language.{Bits, slice, number, bit}
use Rattle.bits.specs.Steps.{length-slice, slice_get}
use Rattle.bits.specs.Writes.{Binary, listed, to_bits, pack, to_bytes}
use Rattle.bits.specs.Lists.{slice-slice, binary-slice, length-to_bits, number-to_bits, get_or-to_bits, number_bit}
use Rattle.bits.specs.Terms.{Holds}

pub length-pack : (b : Bits) (at n : ℕ) → length (pack b at n) ≡ n
unfolding pack
length-pack b at zero = refl
length-pack b at (suc n) = ap suc (length-pack b (at + 8) n)

pub length-to_bytes : (l : List ℕ) → length (to_bytes l) ≡ (length l + 7) / 8
unfolding to_bytes
length-to_bytes l = length-pack (listed l) 0 ((length l + 7) / 8)

pub bytes_long : (l : List ℕ) → length l ≤ 8 * length (to_bytes l)
bytes_long l = omega (arith, length-to_bytes l)

pub get_or-pack : (b : Bits) (at n i : ℕ) → i < n → get_or (pack b at n) i 0 ≡ number (slice b (at + 8 * i) 8)
unfolding pack
get_or-pack b at zero i h = absurd (omega arith)
get_or-pack b at (suc n) zero h = ap (λ (k : ℕ). number (slice b k 8)) (omega arith)
get_or-pack b at (suc n) (suc i) h = get_or-pack b (at + 8) n i (omega arith) ∙ ap (λ (k : ℕ). number (slice b k 8)) (omega arith)

-- ---- the bits of bytes

pub bit_lt : (s : List ℕ) (i : ℕ) → bit s i < 2
unfolding bit
bit_lt s i = mod-lt (get_or s (i / 8) 0 / 2 ^ (7 - i % 8)) (lit< tt)

pub bit-pack : (b : Bits) (n i : ℕ) → ((i : ℕ) → b i < 2) → i < 8 * n → bit (pack b 0 n) i ≡ b i
unfolding bit
bit-pack b n i h l =
    let at : ℕ = 0 + 8 * (i / 8) in
    let k : ℕ = i % 8 in
    let w = length-slice b at 8 in
    let e : 7 - k ≡ length (slice b at 8) - 1 - k = omega arith in
    let f : at + k ≡ i = omega arith in
    rw (get_or-pack b 0 n (i / 8) (omega arith), e, number_bit (slice b at 8) k (binary-slice b at 8 h) (omega arith))
    (sym (slice_get b at 8 k (omega arith)) ∙ ap b f)

-- the bytes of bits hold them
pub bytes-hold : (l : List ℕ) → Binary l → Holds (bit (to_bytes l)) 0 l
unfolding to_bytes
bytes-hold l h i j = bit-pack (listed l) ((length l + 7) / 8) (0 + i) h (omega arith) ∙ ap (λ (k : ℕ). get_or l k 0) (omega arith)

-- ---- and back

byte-bits : (s : List ℕ) (j : ℕ) → get_or s j 0 < 256 → number (slice (bit s) (8 * j) 8) ≡ get_or s j 0
unfolding bit
byte-bits s j h =
    let x : ℕ = get_or s j 0 in
    let n = length-slice (bit s) (8 * j) 8 in
    let m = length-to_bits 8 x in
    let same : slice (bit s) (8 * j) 8 ≡ to_bits 8 x =
    ext_get_or 0 (slice (bit s) (8 * j) 8) (to_bits 8 x) (n ∙ sym m) λ i k.
    let a : (8 * j + i) / 8 ≡ j = omega arith in
    let e : 7 - (8 * j + i) % 8 ≡ 8 - 1 - i = omega arith in
    sym (slice_get (bit s) (8 * j) 8 i (omega arith)) ∙ rw (a, e) (sym (get_or-to_bits 8 x i (omega arith))) in
    ap number same ∙ number-to_bits 8 x ∙ mod-eq_of_lt h

-- bytes are those of their bits
pub to_bytes-bit : (s : List ℕ) → ((j : ℕ) → get_or s j 0 < 256) → to_bytes (slice (bit s) 0 (8 * length s)) ≡ s
unfolding to_bytes
to_bytes-bit s h =
    let l : List ℕ = slice (bit s) 0 (8 * length s) in
    let n = length-slice (bit s) 0 (8 * length s) in
    let k : (length l + 7) / 8 ≡ length s = omega arith in
    let m = length-pack (listed l) 0 (length s) in
    ap (pack (listed l) 0) k ∙ ext_get_or 0 (pack (listed l) 0 (length s)) s m λ i j.
    let e : 0 + 8 * i ≡ 8 * i = omega arith in
    get_or-pack (listed l) 0 (length s) i (omega arith) ∙ ap (λ (x : ℕ). number (slice (listed l) x 8)) e
    ∙ ap number (slice-slice (bit s) (8 * length s) (8 * i) 8 (omega arith)) ∙ byte-bits s i (h i)
