-- Bits that are copied, and an element count: what is laid, and how many bits it takes. Assumes nothing.
use mathlib.Core.Path.{◌≡◌, refl, sym, ap, ◌∙◌, subst}
use mathlib.Core.Bool.{Bool}
use mathlib.Core.List.{List, [], ◌++◌}
use Prim.Native.Nat.{ℕ, ◌+◌, ◌-◌, ◌*◌, ◌/◌, ◌%◌, ◌≤◌, ◌<◌}
use native.Mathlib.Omega.{arith}
use borrow.Author.Tests.{lt-ltb, le-ltb}
use lib.ListN.{length}
use Rattle.bits.specs.Language.{Bits, slice, number, bit, pick}
use Rattle.bits.specs.Steps.{length-slice}
use Rattle.bits.specs.View.{Sees, looked}
use Rattle.bits.specs.Writes.{to_bits}
use Rattle.bits.specs.Lists.{slice-append, binary-slice, bits-number}
use Rattle.bits.specs.Bytes.{bit_lt}
use Rattle.laying.specs.declared.Pen.{Pen}
use Rattle.laying.specs.Laying.{Laid}
use Rattle.demands.specs.Assembly.{count_bits}
use Rattle.salvaging.specs.Lemmas.Keeping.{count-length}

-- ---- bits

-- the number of some bits, laid, is these bits
pub copied : (s : List ℕ) (at w : ℕ) → to_bits w (number (slice (bit s) at w)) ≡ slice (bit s) at w
copied s at w =
    subst (λ (n : ℕ). to_bits n (number (slice (bit s) at w)) ≡ slice (bit s) at w) (length-slice (bit s) at w)
    (bits-number (slice (bit s) at w) (binary-slice (bit s) at w (bit_lt s)))

-- a field, seen in the window that begins with its first byte
pub seen_in : {x : ℕ} (s : List ℕ) (at o w : ℕ) → Sees x (bit s) (8 * (at / 8)) → o ≡ at % 8 → o + w ≤ 64 → looked x o w ≡ number (slice (bit s) at w)
seen_in s at o w sees e h = sees.sight o w h ∙ ap (λ (k : ℕ). number (slice (bit s) k w)) (omega arith)

-- the first w bits of a run, and the others
pub slice_next : (b : Bits) (at w n : ℕ) {to : ℕ} → w ≤ n → at + w ≡ to → slice b at n ≡ slice b at w ++ slice b to (n - w)
slice_next b at w n h e =
    let all : n ≡ w + (n - w) = omega arith in
    ap (slice b at) all ∙ slice-append b at w (n - w) ∙ ap (λ (k : ℕ). slice b at w ++ slice b k (n - w)) e

pub slice_none : (b : Bits) (at n : ℕ) → n ≡ 0 → slice b at n ≡ []
unfolding slice
slice_none b at n e = ap (slice b at) e

-- the same run, under another name for its length
pub run_is : {n m : ℕ} {t u : List ℕ} {p r : Pen} (b : Bits) (from : ℕ) → n ≡ m → Laid n t u p r (slice b from n) → Laid m t u p r (slice b from m)
run_is {t = t} {u} {p} {r} b from e h = subst (λ (k : ℕ). Laid k t u p r (slice b from k)) e h

-- ---- an element count

pub count-short : (n : ℕ) → n < 15 → to_bits 4 n ≡ count_bits n
unfolding count_bits
count-short n h = sym (rw (lt-ltb n 15 h) refl)

pub count_long : (n : ℕ) → 15 ≤ n → to_bits 4 15 ++ to_bits 5 (n - 15) ≡ count_bits n
unfolding count_bits
count_long n h = sym (rw (le-ltb n 15 h) refl)

pub short-width : (n : ℕ) → n < 15 → length (count_bits n) ≡ 4
short-width n h = count-length n ∙ ap (λ (t : Bool). pick t 4 9) (lt-ltb n 15 h)

pub long-width : (n : ℕ) → 15 ≤ n → length (count_bits n) ≡ 9
long-width n h = count-length n ∙ ap (λ (t : Bool). pick t 4 9) (le-ltb n 15 h)
