-- A number of 64 bits that has the bits of a list first and zeros behind them, and its eight bytes in a buffer.
use Rattle.std.proofs.Common.{◌≡◌, ℕ, zero, suc, ◌+◌, ◌-◌, ◌*◌, ◌/◌, ◌%◌, ◌^◌, ◌<◌, ◌≤◌, List, [], ◌∷◌, ◌++◌, length, get_or, take, drop, set, sym, refl, ap, ◌∙◌, add-zero, mod-eq_of_lt, mul_assoc, add-mul, arith, length-append, length-drop, length-set, take-append-drop, get_or-drop, get_or-set_other, get_or-set_same, pow_pos, pow-add, shl_lt, shr-shr}
use native.Mathlib.Nat.{zero-div}
use lib.ListN.{get_or-eq_default}
use lib.Pow.{field, low, mod-mod-pow}
use Rattle.bits.specs.Language.{bit, number}
use Rattle.bits.specs.Steps.{by_order}
use Rattle.bits.specs.Writes.{to_bits, Binary}
use Rattle.bits.specs.Lists.{binary-append, binary-to_bits, length-to_bits, number-to_bits, number_lt, number_bit, number_append}
use Rattle.laying.specs.Laying.{Bytes, set_wide}

-- a bit of a number's low k bits is that bit of the number
low_bit : (y k j : ℕ) → j < k → y % 2 ^ k / 2 ^ j % 2 ≡ y / 2 ^ j % 2
low_bit y k j h =
    let e : k ≡ k - j - 1 + 1 + j = omega arith in
    ap (λ (n : ℕ). y % 2 ^ n / 2 ^ j % 2) e
    ∙ ap (λ (x : ℕ). x % 2) (field y (k - j - 1 + 1) j)
    ∙ mod-mod-pow (y / 2 ^ j) (k - j - 1) 1

-- ---- the bits of a list and zeros behind them

get_or-zeros : (n k : ℕ) → get_or (to_bits n 0) k 0 ≡ 0
unfolding to_bits
get_or-zeros zero k = refl
get_or-zeros (suc n) zero = rw (zero-div (2 ^ n))
get_or-zeros (suc n) (suc k) = get_or-zeros n k

get_or-pad : (x : List ℕ) (n k : ℕ) → get_or (x ++ to_bits n 0) k 0 ≡ get_or x k 0
get_or-pad [] n k = get_or-zeros n k
get_or-pad (y ∷ ys) n zero = refl
get_or-pad (y ∷ ys) n (suc k) = get_or-pad ys n k

pub binary-drop : (k : ℕ) (x : List ℕ) → Binary x → Binary (drop k x)
binary-drop k x h i = rw (get_or-drop k x i 0) (h (k + i))

-- 64 bits in all
abbrev pub spelt : List ℕ → ℕ
spelt x = number x * 2 ^ (64 - length x)

module _ (x : List ℕ) (bin : Binary x) (room : length x ≤ 64) where
  abbrev m : ℕ
  m = 64 - length x

  abbrev filled : List ℕ
  filled = x ++ to_bits m 0

  filled_is : number filled ≡ spelt x
  filled_is =
      let z : number (to_bits m 0) ≡ 0 = number-to_bits m 0 ∙ mod-eq_of_lt (pow_pos m) in
      rw (number_append x (to_bits m 0), length-to_bits m 0, z) (add-zero (spelt x))

  pub spelt_lt : spelt x < 2 ^ 64
  spelt_lt =
      let e : length x + m ≡ 64 = omega arith in
      rw e at (shl_lt (length x) m (number_lt x bin))

  -- its bits, counted from the top
  pub spelt-bit : (j : ℕ) → j < 64 → spelt x / 2 ^ (63 - j) % 2 ≡ get_or x j 0
  spelt-bit j h =
      let n = length-append x (to_bits m 0) in
      let k = length-to_bits m 0 in
      let e : length filled - 1 - j ≡ 63 - j = omega arith in
      rw (filled_is, e) at (number_bit filled j (binary-append x (to_bits m 0) bin (binary-to_bits m 0)) (omega arith)) ∙ get_or-pad x m j

-- a field joined behind them
pub spelt-join : (x : List ℕ) (w v : ℕ) → Binary x → v < 2 ^ w → length x + w ≤ 64
    → (spelt x + v * 2 ^ (64 - (length x + w))) % 2 ^ 64 ≡ spelt (x ++ to_bits w v)
spelt-join x w v bin h l =
    let k : ℕ = 64 - (length x + w) in
    let n : length (x ++ to_bits w v) ≡ length x + w = length-append x (to_bits w v) ∙ ap (λ (z : ℕ). length x + z) (length-to_bits w v) in
    let e : 64 - length x ≡ w + k = omega arith in
    let a : number (x ++ to_bits w v) ≡ number x * 2 ^ w + v = rw (number_append x (to_bits w v), length-to_bits w v, number-to_bits w v, mod-eq_of_lt h) in
    let c : spelt x + v * 2 ^ k ≡ spelt (x ++ to_bits w v) =
    rw (n, a, e, pow-add 2 w k, add-mul (number x * 2 ^ w) v (2 ^ k), mul_assoc (number x) (2 ^ w) (2 ^ k)) in
    ap (λ (z : ℕ). z % 2 ^ 64) c ∙ mod-eq_of_lt (spelt_lt (x ++ to_bits w v) (binary-append x (to_bits w v) bin (binary-to_bits w v)) (omega arith))

-- and the first of them shifted out
pub spelt-drop : (x : List ℕ) (k : ℕ) → Binary x → length x ≤ 64 → k ≤ length x → spelt x * 2 ^ k % 2 ^ 64 ≡ spelt (drop k x)
spelt-drop x k bin room l =
    let hi : ℕ = number (take k x) in
    let lo : ℕ = number (drop k x) in
    let j : ℕ = length x - k in
    let m : ℕ = 64 - length x in
    let n : length (drop k x) ≡ j = length-drop k x in
    let a : number x ≡ hi * 2 ^ j + lo = ap number (sym (take-append-drop k x)) ∙ number_append (take k x) (drop k x) ∙ ap (λ (z : ℕ). hi * 2 ^ z + lo) n in
    let e : 64 - length (drop k x) ≡ m + k = omega arith in
    let f : j + (m + k) ≡ 64 = omega arith in
    let c : spelt x * 2 ^ k ≡ hi * 2 ^ 64 + spelt (drop k x) =
    rw (a, e, mul_assoc (hi * 2 ^ j + lo) (2 ^ m) (2 ^ k), ← pow-add 2 m k, add-mul (hi * 2 ^ j) lo (2 ^ (m + k)), mul_assoc hi (2 ^ j) (2 ^ (m + k)), ← pow-add 2 j (m + k), f) in
    ap (λ (z : ℕ). z % 2 ^ 64) c ∙ low hi 64 (spelt_lt (drop k x) (binary-drop k x bin) (omega arith))

-- ---- bytes in a list of bytes

-- bytes from i on replaced by others, as far as the buffer goes
unfoldable set_bytes : List ℕ → ℕ → List ℕ → List ℕ
set_bytes s i [] = s
set_bytes s i (b ∷ bs) = set_bytes (set s i b) (i + 1) bs

-- the eight bytes of y
abbrev wide_bytes : ℕ → List ℕ
wide_bytes y =
    y / 72057594037927936
    ∷ y / 281474976710656 % 256
    ∷ y / 1099511627776 % 256
    ∷ y / 4294967296 % 256
    ∷ y / 16777216 % 256
    ∷ y / 65536 % 256
    ∷ y / 256 % 256
    ∷ y % 256
    ∷ []

wide_is : (s : List ℕ) (i y : ℕ) → set_wide s i y ≡ set_bytes s i (wide_bytes y)
unfolding set_bytes
wide_is s i y =
    let e2 : i + 1 + 1 ≡ i + 2 = omega arith in
    let e3 : i + 2 + 1 ≡ i + 3 = omega arith in
    let e4 : i + 3 + 1 ≡ i + 4 = omega arith in
    let e5 : i + 4 + 1 ≡ i + 5 = omega arith in
    let e6 : i + 5 + 1 ≡ i + 6 = omega arith in
    let e7 : i + 6 + 1 ≡ i + 7 = omega arith in
    rw (e2, e3, e4, e5, e6, e7)

length-bytes : (s : List ℕ) (i : ℕ) (bs : List ℕ) → length (set_bytes s i bs) ≡ length s
unfolding set_bytes
length-bytes s i [] = refl
length-bytes s i (b ∷ bs) = length-bytes (set s i b) (i + 1) bs ∙ length-set s i b

-- before them the others stay
bytes-before : (s : List ℕ) (i : ℕ) (bs : List ℕ) (k : ℕ) → k < i → get_or (set_bytes s i bs) k 0 ≡ get_or s k 0
unfolding set_bytes
bytes-before s i [] k h = refl
bytes-before s i (b ∷ bs) k h = bytes-before (set s i b) (i + 1) bs k (omega arith) ∙ get_or-set_other s i k b 0 (λ e. omega arith)

bytes_inside : (s : List ℕ) (i : ℕ) (bs : List ℕ) (j : ℕ) → j < length bs → i + j < length s → get_or (set_bytes s i bs) (i + j) 0 ≡ get_or bs j 0
unfolding set_bytes
bytes_inside s i [] j h l = absurd (omega arith)
bytes_inside s i (b ∷ bs) zero h l = rw (add-zero i) (bytes-before (set s i b) (i + 1) bs i (omega arith) ∙ get_or-set_same s i b 0 (omega arith))
bytes_inside s i (b ∷ bs) (suc j) h l =
    let e : i + suc j ≡ i + 1 + j = omega arith in
    rw e (bytes_inside (set s i b) (i + 1) bs j (omega arith) (omega (arith, length-set s i b)))

bytes-set : (s : List ℕ) (i b : ℕ) → b < 256 → Bytes s → Bytes (set s i b)
bytes-set [] i b l h k = h k
bytes-set (x ∷ xs) zero b l h zero = l
bytes-set (x ∷ xs) zero b l h (suc k) = h (suc k)
bytes-set (x ∷ xs) (suc i) b l h zero = h 0
bytes-set (x ∷ xs) (suc i) b l h (suc k) = bytes-set xs i b l (λ j. h (suc j)) k

bytes_all : (s : List ℕ) (i : ℕ) (bs : List ℕ) → Bytes bs → Bytes s → Bytes (set_bytes s i bs)
unfolding set_bytes
bytes_all s i [] f h = h
bytes_all s i (b ∷ bs) f h = bytes_all (set s i b) (i + 1) bs (λ j. f (suc j)) (bytes-set s i b (f 0) h)

module _ (y : ℕ) (h : y < 2 ^ 64) where
  wide-byte : (j : ℕ) → j < 8 → get_or (wide_bytes y) j 0 ≡ y / 2 ^ (8 * (7 - j)) % 256
  wide-byte zero l = omega arith
  wide-byte (suc zero) l = refl
  wide-byte (suc (suc zero)) l = refl
  wide-byte (suc (suc (suc zero))) l = refl
  wide-byte (suc (suc (suc (suc zero)))) l = refl
  wide-byte (suc (suc (suc (suc (suc zero))))) l = refl
  wide-byte (suc (suc (suc (suc (suc (suc zero)))))) l = refl
  wide-byte (suc (suc (suc (suc (suc (suc (suc zero))))))) l = omega arith
  wide-byte (suc (suc (suc (suc (suc (suc (suc (suc j)))))))) l = absurd (omega arith)

  wide-bytes : Bytes (wide_bytes y)
  wide-bytes j = by_order 8 j (λ l. rw (get_or-eq_default (wide_bytes y) 0 l) (omega arith)) (λ l. rw (wide-byte j l) (omega arith))

-- the bit q behind the first of byte i, where the bytes from i are those of the number x
byte-bit : (s : List ℕ) (i q x : ℕ) → q < 64 → get_or s (i + q / 8) 0 ≡ x / 2 ^ (8 * (7 - q / 8)) % 256 → bit s (8 * i + q) ≡ x / 2 ^ (63 - q) % 2
unfolding bit
byte-bit s i q x h b =
    let j = q / 8 in
    let m = q % 8 in
    let e : (8 * i + q) / 8 ≡ i + j = omega arith in
    let f : (8 * i + q) % 8 ≡ m = omega arith in
    let g : 8 * (7 - j) + (7 - m) ≡ 63 - q = omega arith in
    ap (λ (k : ℕ). get_or s k 0 / 2 ^ (7 - (8 * i + q) % 8) % 2) e
    ∙ ap (λ (k : ℕ). get_or s (i + j) 0 / 2 ^ (7 - k) % 2) f
    ∙ ap (λ (n : ℕ). n / 2 ^ (7 - m) % 2) b
    ∙ low_bit (x / 2 ^ (8 * (7 - j))) 8 (7 - m) (omega arith)
    ∙ ap (λ (n : ℕ). n % 2) (shr-shr x (8 * (7 - j)) (7 - m))
    ∙ ap (λ (k : ℕ). x / 2 ^ k % 2) g

-- bytes that hold the first bits of b, and behind them the eight bytes of the next, hold them all
pub stored-bit : (s : List ℕ) (i : ℕ) (b : List ℕ) → Binary b → length b ≤ 8 * i + 64 → ((q : ℕ) → q < 8 * i → bit s q ≡ get_or b q 0)
    → (q : ℕ) → q < 8 * length s → q < 8 * i + 64 → bit (set_wide s i (spelt (drop (8 * i) b))) q ≡ get_or b q 0
unfolding bit
stored-bit s i b bin long h q l r =
    let x : List ℕ = drop (8 * i) b in
    let z : ℕ = spelt x in
    let n = length-drop (8 * i) b in
    let f = binary-drop (8 * i) b bin in
    let j : ℕ = q - 8 * i in
    rw (wide_is s i z) (by_order (8 * i) q
    (λ o.
    let e : 8 * i + j ≡ q = omega arith in
    ap (bit (set_bytes s i (wide_bytes z))) (sym e)
    ∙ byte-bit (set_bytes s i (wide_bytes z)) i j z (omega arith)
    (bytes_inside s i (wide_bytes z) (j / 8) (omega arith) (omega arith) ∙ wide-byte z (spelt_lt x f (omega arith)) (j / 8) (omega arith))
    ∙ spelt-bit x f (omega arith) j (omega arith) ∙ get_or-drop (8 * i) b j 0 ∙ ap (λ (k : ℕ). get_or b k 0) e)
    (λ o. ap (λ (k : ℕ). k / 2 ^ (7 - q % 8) % 2) (bytes-before s i (wide_bytes z) (q / 8) (omega arith)) ∙ h q o))

pub wide-length : (s : List ℕ) (i y : ℕ) → length (set_wide s i y) ≡ length s
wide-length s i y = rw (wide_is s i y) (length-bytes s i (wide_bytes y))

pub bytes-wide : (s : List ℕ) (i y : ℕ) → y < 2 ^ 64 → Bytes s → Bytes (set_wide s i y)
bytes-wide s i y h f = rw (wide_is s i y) (bytes_all s i (wide_bytes y) (wide-bytes y h) f)
