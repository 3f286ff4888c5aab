-- Bytes as a number: two numbers are the same exactly if their bytes are, and a number has the bytes that it was made of. Assumes nothing.
use mathlib.Core.Path.{◌≡◌, refl, ap, ◌∙◌}
use mathlib.Core.Bool.{Bool, true, false}
use mathlib.Core.List.{List, [], ◌∷◌}
use Prim.Native.Nat.{ℕ, zero, suc, ◌+◌, ◌*◌, ◌/◌, ◌%◌, ◌^◌, ◌<◌}
use native.Mathlib.Nat.{pow-suc}
use native.Mathlib.Numerals.{add-one}
use native.Mathlib.Omega.{arith}
use Rattle.std.proofs.Common.{length, take, drop, ◌++◌, ◌≤◌, sym, ap₂, length-append, take-append-drop}
use Rattle.std.proofs.lemmas.List.{length-take-le}
use Rattle.std.proofs.lemmas.Slice.{take-put_mid, drop-put_mid}
use borrow.Rule.Slice.PartMut.{put_mid}
use Rattle.oamd.specs.Record.{onto}
use Rattle.record.specs.Stored.{seam}
use lib.Dec.{eqb}
use lib.ListN.{get_or}
use borrow.Author.Tests.{eqb-true, eqb-false, eq-eqb, ne_eqb}
use Rattle.bits.specs.Language.{both}
use Rattle.bits.specs.Terms.{Every}
use Rattle.oamd.specs.LeastFirst.{least_first, least_at}
use Rattle.record.specs.Bytes.{set_from, bytes_at, same_bytes}
use Rattle.record.specs.Numbers.{Number}

-- by the least byte and what stands above it
digit : (b w v : ℕ) → b < 256 → eqb (b + 256 * w) v ≡ both (eqb b (v % 256)) (eqb w (v / 256))
digit b w v h = go (eqb b (v % 256)) (eqb w (v / 256)) refl refl
  where
    go : (p q : Bool) → eqb b (v % 256) ≡ p → eqb w (v / 256) ≡ q → eqb (b + 256 * w) v ≡ both p q
    go true true e f = eq-eqb (b + 256 * w) v (let x = eqb-true b (v % 256) e in let y = eqb-true w (v / 256) f in omega arith)
    go true false e f = ne_eqb (b + 256 * w) v (λ z. eqb-false w (v / 256) f (omega arith))
    go false q e f = ne_eqb (b + 256 * w) v (λ z. eqb-false b (v % 256) e (omega arith))

pub same_number : (n : ℕ) (s : List ℕ) (at v : ℕ) → Every (λ b. b < 256) (bytes_at s n at) → v < 256 ^ n
    → eqb (least_at n s at) v ≡ same_bytes (bytes_at s n at) (least_first n v)
unfolding least_at bytes_at least_first
same_number zero s at v small few = let e : v ≡ 0 = omega arith in rw e refl
same_number (suc n) s at v small few =
    let p = pow-suc 256 n in
    let rest : eqb (least_at n s (suc at)) (v / 256) ≡ same_bytes (bytes_at s n (at + 1)) (least_first n (v / 256)) =
    rw (← add-one at) (same_number n s (at + 1) (v / 256) small.1 (omega arith)) in
    digit (get_or s at 0) (least_at n s (suc at)) v small.0 ∙ ap (both (eqb (get_or s at 0) (v % 256))) rest

-- four bytes make a number
pub four : {s : List ℕ} {at a b c d : ℕ} → (a ≡ get_or s at 0) × (a < 256) → (b ≡ get_or s (at + 1) 0) × (b < 256) → (c ≡ get_or s (at + 2) 0) × (c < 256)
    → (d ≡ get_or s (at + 3) 0) × (d < 256) → Number 4 s at (a + 256 * (b + 256 * (c + 256 * d)))
unfolding least_at bytes_at
four {s} {at} {a} {b} {c} {d} one two three last =
    let e : at + 1 + 1 ≡ at + 2 = omega arith in
    let f : at + 2 + 1 ≡ at + 3 = omega arith in
    let g : suc at ≡ at + 1 = omega arith in
    let h : suc (at + 1) ≡ at + 2 = omega arith in
    let i : suc (at + 2) ≡ at + 3 = omega arith in
    record {
      is = rw (g, h, i, one.0, two.0, three.0, last.0) (omega arith);
      below = omega (arith, one.1, two.1, three.1, last.1);
      bytes = rw (e, f, ← one.0, ← two.0, ← three.0, ← last.0) (one.1, (two.1, (three.1, (last.1, tt))));
    }

-- eight bytes make a number
pub eight : {s : List ℕ} {at r : ℕ} → ((i : ℕ) → get_or s i 0 < 256) → r ≡ get_or s at 0 + get_or s (at + 1) 0 * 256 + get_or s (at + 2) 0 * 65536
    + get_or s (at + 3) 0 * 16777216 + get_or s (at + 4) 0 * 4294967296 + get_or s (at + 5) 0 * 1099511627776 + get_or s (at + 6) 0 * 281474976710656
    + get_or s (at + 7) 0 * 72057594037927936 → r < 256 ^ 8 → Number 8 s at r
unfolding least_at bytes_at
eight {s} {at} small is below =
    let a : (n : ℕ) → suc (at + n) ≡ at + (n + 1) = λ n. omega arith in
    let b : (n : ℕ) → at + n + 1 ≡ at + (n + 1) = λ n. omega arith in
    let e : suc at ≡ at + 1 = omega arith in
    record {
      is = rw (e, a 1, a 2, a 3, a 4, a 5, a 6) (omega (arith, is));
      below = below;
      bytes = rw (b 1, b 2, b 3, b 4, b 5, b 6)
          (small at, (small (at + 1), (small (at + 2), (small (at + 3), (small (at + 4), (small (at + 5), (small (at + 6), (small (at + 7), tt))))))));
    }

pub eight_of : (v : ℕ) → v % 256 ∷ v / 256 % 256 ∷ v / 65536 % 256 ∷ v / 16777216 % 256 ∷ v / 4294967296 % 256 ∷ v / 1099511627776 % 256 ∷ v / 281474976710656 % 256
    ∷ v / 72057594037927936 % 256 ∷ [] ≡ least_first 8 v
unfolding least_first
eight_of v =
    let a : v / 256 / 256 ≡ v / 65536 = omega arith in
    let b : v / 65536 / 256 ≡ v / 16777216 = omega arith in
    let d : v / 16777216 / 256 ≡ v / 4294967296 = omega arith in
    let e : v / 4294967296 / 256 ≡ v / 1099511627776 = omega arith in
    let f : v / 1099511627776 / 256 ≡ v / 281474976710656 = omega arith in
    let g : v / 281474976710656 / 256 ≡ v / 72057594037927936 = omega arith in
    rw (a, b, d, e, f, g) refl

-- bytes that are put in place of as many are stored one by one
pub stored : (xs s : List ℕ) (at n : ℕ) → at + n ≤ length s → length xs ≡ n → put_mid at n s xs ≡ set_from at 0 xs s
unfolding onto
stored xs s at n h e =
    let front : List ℕ = take at s in
    let long : length front ≡ at = length-take-le at s (omega arith) in
    let all : length (front ++ xs) ≡ at + n = length-append front xs ∙ omega arith in
    sym (take-append-drop (at + n) (put_mid at n s xs))
    ∙ ap₂ (λ (x y : List ℕ). x ++ y) (take-put_mid at n s xs (at + n) (omega arith) (omega arith)) (drop-put_mid at n s xs (at + n) (omega arith) (omega arith) e)
    ∙ ap (λ (m : ℕ). (front ++ xs) ++ drop m s) (sym all)
    ∙ sym (seam xs front s at 0 (omega arith) (omega arith))
    ∙ ap (λ (m : ℕ). set_from at 0 xs (front ++ drop m s)) long
    ∙ ap (set_from at 0 xs) (take-append-drop at s)

-- its bytes are those that it was made of
again : (n : ℕ) (s : List ℕ) (at : ℕ) → Every (λ b. b < 256) (bytes_at s n at) → least_first n (least_at n s at) ≡ bytes_at s n at
unfolding least_at bytes_at least_first
again zero s at small = refl
again (suc n) s at small =
    let w : ℕ = least_at n s (suc at) in
    let low : (get_or s at 0 + 256 * w) % 256 ≡ get_or s at 0 = omega (arith, small.0) in
    let high : (get_or s at 0 + 256 * w) / 256 ≡ w = omega (arith, small.0) in
    rw (low, high, ← add-one at) (ap (λ (xs : List ℕ). get_or s at 0 ∷ xs) (again n s (at + 1) small.1))

pub as_bytes : {n : ℕ} {s : List ℕ} {at r : ℕ} → Number n s at r → least_first n r ≡ bytes_at s n at
as_bytes {n} {s} {at} x = ap (least_first n) x.is ∙ again n s at x.bytes
