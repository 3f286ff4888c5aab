use Rattle.std.proofs.Common.{List, ℕ, ◌*◌}
use Rattle.laying.specs.Laying.{Laid}
use Rattle.writer.specs.Parts.{bits_below, PacksEach}
use Rattle.writer.proofs.each.put_each.Given as goal

-- The parts of the numbers below i are laid.
abbrev pub invariant-loop-i : goal.invariant-loop-i
invariant-loop-i g l =
    (most : ℕ) (f : ℕ → List ℕ) → PacksEach (goal.F-post g l.part) most f l.n → Laid (most * l.i) l.initial.out l.out l.initial.next l.next (bits_below f l.i)
