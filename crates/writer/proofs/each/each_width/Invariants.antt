use Rattle.std.proofs.Common.{List, ℕ, ◌*◌, ◌<◌}
use Rattle.writer.specs.Parts.{Wide, bits_below, PacksEach}
use Rattle.writer.proofs.each.each_width.Given as goal

-- The bits of the numbers below i are counted.
abbrev pub invariant-loop-i : goal.invariant-loop-i
invariant-loop-i g l =
    (most : ℕ) (f : ℕ → List ℕ) → PacksEach (goal.F-post g l.part) most f l.n → most * l.n < 4294967296 → Wide (most * l.i) l.total.0 (bits_below f l.i)
