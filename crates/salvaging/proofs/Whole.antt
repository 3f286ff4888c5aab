-- All that is left: how many bits, and laid part by part. Assumes nothing.
use mathlib.Core.Path.{◌≡◌, ap, ◌∙◌, subst}
use mathlib.Core.List.{List, ◌++◌}
use Prim.Native.Nat.{ℕ, ◌+◌, ◌-◌, ◌%◌, ◌≤◌}
use native.Mathlib.Omega.{arith}
use lib.ListN.{length, length-append}
use Rattle.bits.specs.Language.{slice, bit}
use Rattle.bits.specs.Steps.{by_order, length-slice}
use Rattle.laying.specs.declared.Pen.{Pen}
use Rattle.laying.specs.Laying.{Laid, blank}
use Rattle.laying.proofs.Laws.{laid-bind, laid_is, laid-within}
use Rattle.demands.specs.Assembly.{count_bits}
use Rattle.reader.specs.declared.Sifted.{Sifted}
use Rattle.salvaging.specs.Lemmas.Keeping.{without_fewer}
use Rattle.salvaging.specs.Parts.{most_bits, most_count, most_left, runs_by, left_by, Fair}
use Rattle.salvaging.proofs.Copies.{run_is, short-width, long-width}
use Rattle.salvaging.proofs.RunLoop.{runs-few}

count_most : (n : ℕ) → length (count_bits n) ≤ most_count
count_most n = by_order 15 n (λ h. omega (arith, long-width n h)) (λ h. omega (arith, short-width n h))

left-length : (s : List ℕ) (d : Sifted) → length (left_by s d) ≡ d.head.0 + (length (count_bits (d.count - d.drops)) + length (runs_by s d))
unfolding left_by
left-length s d =
    let head : List ℕ = slice (bit s) 0 d.head.0 in
    let count : List ℕ = count_bits (d.count - d.drops) in
    omega (arith, length-append head (count ++ runs_by s d), length-append count (runs_by s d), length-slice (bit s) 0 d.head.0)

module _ {s : List ℕ} {d : Sifted} (f : Fair s d) where
  pub head_most : d.head.0 ≤ most_bits
  head_most = omega (arith, f.headed, f.short, without_fewer (bit s) f.order)

  pub left_most : length (left_by s d) ≤ most_left
  left_most = omega (arith, left-length s d, head_most, count_most (d.count - d.drops), runs-few f)

  -- counted part by part
  pub left-counted : {before kept count behind sum r : ℕ} → before ≡ d.head.0 → kept ≡ d.count - d.drops → count ≡ length (count_bits kept)
      → behind ≡ length (runs_by s d) → sum ≡ (before + count) % 4294967296 → r ≡ (sum + behind) % 4294967296 → r ≡ length (left_by s d)
  left-counted a k c b g h =
      let same = c ∙ ap (λ (n : ℕ). length (count_bits n)) k in
      omega (arith, a, b, g, h, same, left-length s d, head_most, count_most (d.count - d.drops), runs-few f)

  -- laid part by part
  pub left_laid : {t u v w : List ℕ} {first n kept : ℕ} {start p q r : Pen} → start ≡ blank → first ≡ 0 → n ≡ d.head.0 → kept ≡ d.count - d.drops
      → Laid n t u start p (slice (bit s) first n) → Laid most_count u v p q (count_bits kept) → Laid most_bits v w q r (runs_by s d) → Laid most_left t w blank r (left_by s d)
  unfolding left_by
  left_laid {t} {u} {first = first} {p = p} b a n k head count runs =
      let whole = laid_is (ap (λ (m : ℕ). slice (bit s) m d.head.0) a) (run_is (bit s) first n head) in
      let zero = subst (λ (x : Pen). Laid d.head.0 t u x p (slice (bit s) 0 d.head.0)) b whole in
      laid-bind (laid-within head_most zero) (laid-bind (laid_is (ap count_bits k) count) runs)
