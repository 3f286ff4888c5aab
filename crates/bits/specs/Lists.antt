-- Lists of bits: where they stand, and the numbers that they stand for.
use Rattle.std.specs.Prelude.{◌≡◌, refl, List, [], ◌∷◌, ◌++◌, ℕ, zero, suc, ◌+◌, ◌-◌, ◌*◌, ◌/◌, ◌%◌, ◌^◌, ◌≤◌, ◌<◌, length, get_or, replicate}
use Rattle.std.proofs.Common.{sym, ap, ap₂, ◌∙◌, subst, arith, add_comm, add-mul, mul_assoc, pow-suc, mod-eq_of_lt, length-append, pow-add, pow_pos, get_or-append-add, ext_get_or}
use Rattle.std.proofs.Math.Nat.{add-mul-div_right, mul-add-mod_self_right, mod-one}
use Rattle.std.proofs.Math.Arith.{digits_lt}
use Rattle.std.proofs.Math.ListN.{get_or-append}
use Rattle.std.proofs.lemmas.Nat.{mod-pow-add}
use Rattle.std.proofs.Math.Pow.{high}
use Rattle.bits.specs.Language.{Bits, slice, number}
use Rattle.bits.specs.Steps.{by_order, slice_get}
use Rattle.bits.specs.Writes.{Binary, listed, to_bits}
use Rattle.bits.specs.Terms.{Holds}

-- ---- where they stand

pub holds_slice : (b : Bits) (at : ℕ) (l : List ℕ) → Holds b at l → slice b at (length l) ≡ l
unfolding slice
holds_slice b at [] h = refl
holds_slice b at (x ∷ xs) h =
    ap₂ (λ (y : ℕ) (ys : List ℕ). y ∷ ys) (ap b (omega arith) ∙ h 0 (omega arith))
    (holds_slice b (suc at) xs (λ i j. ap b (omega arith) ∙ h (suc i) (omega arith)))

pub holds_left : (b : Bits) (at : ℕ) (l m : List ℕ) → Holds b at (l ++ m) → Holds b at l
holds_left b at l m h i j = h i (omega (arith, length-append l m)) ∙ get_or-append l m 0 i j

pub holds_right : (b : Bits) (at : ℕ) (l m : List ℕ) → Holds b at (l ++ m) → Holds b (at + length l) m
holds_right b at l m h i j = ap b (omega arith) ∙ h (length l + i) (omega (arith, length-append l m)) ∙ get_or-append-add l m i 0

pub slice-append : (b : Bits) (at m n : ℕ) → slice b at (m + n) ≡ slice b at m ++ slice b (at + m) n
unfolding slice
slice-append b at zero n =
    let e : 0 + n ≡ n = omega arith in
    let f : at + 0 ≡ at = omega arith in
    rw (e, f)
slice-append b at (suc m) n =
    let e : suc m + n ≡ suc (m + n) = omega arith in
    let f : suc at + m ≡ at + suc m = omega arith in
    rw (e, ← f) (ap (λ (l : List ℕ). b at ∷ l) (slice-append b (suc at) m n))

-- a slice of a slice
pub slice-slice : (b : Bits) (n at m : ℕ) → at + m ≤ n → slice (listed (slice b 0 n)) at m ≡ slice b at m
unfolding slice
slice-slice b n at zero h = refl
slice-slice b n at (suc m) h =
    ap₂ (λ (x : ℕ) (xs : List ℕ). x ∷ xs) (sym (slice_get b 0 n at (omega arith)) ∙ ap b (omega arith)) (slice-slice b n (suc at) m (omega arith))

-- ---- every entry is 0 or 1

pub binary-append : (l m : List ℕ) → Binary l → Binary m → Binary (l ++ m)
binary-append l m f g i = by_order (length l) i
    (λ h.
    let e : length l + (i - length l) ≡ i = omega arith in
    subst (λ (k : ℕ). get_or (l ++ m) k 0 < 2) e (rw (get_or-append-add l m (i - length l) 0) (g (i - length l))))
    (λ h. rw (get_or-append l m 0 i h) (f i))

pub binary-slice : (b : Bits) (at n : ℕ) → ((i : ℕ) → b i < 2) → Binary (slice b at n)
unfolding slice
binary-slice b at zero h i = omega arith
binary-slice b at (suc n) h zero = h at
binary-slice b at (suc n) h (suc i) = binary-slice b (suc at) n h i

pub binary-to_bits : (w v : ℕ) → Binary (to_bits w v)
unfolding to_bits
binary-to_bits zero v i = omega arith
binary-to_bits (suc w) v zero = omega arith
binary-to_bits (suc w) v (suc i) = binary-to_bits w v i

pub binary-zeros : (n : ℕ) → Binary (replicate n 0)
binary-zeros zero i = omega arith
binary-zeros (suc n) zero = omega arith
binary-zeros (suc n) (suc i) = binary-zeros n i

-- ---- from a number to its bits

pub length-to_bits : (w v : ℕ) → length (to_bits w v) ≡ w
unfolding to_bits
length-to_bits zero v = refl
length-to_bits (suc w) v = ap suc (length-to_bits w v)

pub number-to_bits : (w v : ℕ) → number (to_bits w v) ≡ v % 2 ^ w
unfolding to_bits number
number-to_bits zero v = sym (mod-one v)
number-to_bits (suc w) v =
    let e : 1 + w ≡ suc w = omega arith in
    rw (length-to_bits w v, number-to_bits w v) (sym (rw e at (mod-pow-add v 1 w)))

-- bit i of w bits, counted from the top
pub get_or-to_bits : (w v i : ℕ) → i < w → get_or (to_bits w v) i 0 ≡ v / 2 ^ (w - 1 - i) % 2
unfolding to_bits
get_or-to_bits zero v i h = absurd (omega arith)
get_or-to_bits (suc w) v zero h = let e : suc w - 1 - 0 ≡ w = omega arith in rw e
get_or-to_bits (suc w) v (suc i) h = let e : suc w - 1 - suc i ≡ w - 1 - i = omega arith in rw e (get_or-to_bits w v i (omega arith))

-- ---- from bits to their number

pub number_lt : (l : List ℕ) → Binary l → number l < 2 ^ length l
unfolding number
number_lt [] h = omega arith
number_lt (x ∷ xs) h =
    let d : x * 2 ^ length xs + number xs < 2 * 2 ^ length xs = digits_lt (h 0) (number_lt xs (λ i. h (suc i))) in
    rw (pow-suc 2 (length xs)) (omega arith)

-- its bit k, counted from the top
pub number_bit : (l : List ℕ) (k : ℕ) → Binary l → k < length l → number l / 2 ^ (length l - 1 - k) % 2 ≡ get_or l k 0
unfolding number
number_bit [] k h j = absurd (omega arith)
number_bit (x ∷ xs) zero h j =
    let e : suc (length xs) - 1 - 0 ≡ length xs = omega arith in
    rw (e, high x (length xs) (number_lt xs (λ i. h (suc i)))) (mod-eq_of_lt (h 0))
number_bit (x ∷ xs) (suc k) h j =
    let m : ℕ = length xs - 1 - k in
    let e : suc (length xs) - 1 - suc k ≡ m = omega arith in
    let c : length xs ≡ k + suc m = omega arith in
    let q : 2 ^ length xs ≡ 2 ^ k * (2 ^ m * 2) =
    ap (λ (n : ℕ). 2 ^ n) c ∙ pow-add 2 k (suc m) ∙ ap (λ (n : ℕ). 2 ^ k * n) (pow-suc 2 m) in
    let d : x * 2 ^ length xs + number xs ≡ number xs + (x * 2 ^ k * 2) * 2 ^ m = omega (arith, ap (λ (n : ℕ). x * n) q) in
    rw (
      e,
      d,
      add-mul-div_right (number xs) (x * 2 ^ k * 2) (pow_pos m),
      add_comm (number xs / 2 ^ m) (x * 2 ^ k * 2),
      mul-add-mod_self_right
          (x * 2 ^ k) 2 (number xs / 2 ^ m),
    )
    (number_bit xs k (λ i. h (suc i)) (omega arith))

-- a list of bits is that of its number
pub bits-number : (l : List ℕ) → Binary l → to_bits (length l) (number l) ≡ l
bits-number l h =
    let n = length-to_bits (length l) (number l) in
    ext_get_or 0 (to_bits (length l) (number l)) l n λ i j. get_or-to_bits (length l) (number l) i (omega arith) ∙ number_bit l i h (omega arith)

-- of one list behind another
pub number_append : (l m : List ℕ) → number (l ++ m) ≡ number l * 2 ^ length m + number m
unfolding number
number_append [] m = omega arith
number_append (x ∷ xs) m =
    let a : 2 ^ length (xs ++ m) ≡ 2 ^ length xs * 2 ^ length m = ap (λ (n : ℕ). 2 ^ n) (length-append xs m) ∙ pow-add 2 (length xs) (length m) in
    let b = number_append xs m in
    let c = add-mul (x * 2 ^ length xs) (number xs) (2 ^ length m) in
    let d = mul_assoc x (2 ^ length xs) (2 ^ length m) in
    rw a (omega arith)
