use Rattle.std.proofs.Common.{◌≡◌, Bool, ℕ, ◌<◌}
use Rattle.valid.specs.Parts.{all_below}
use Rattle.valid.proofs.table.all_below.Given as goal

-- Before number i the test so far is that of the numbers below i. Assumes nothing.
abbrev pub invariant-loop-i : goal.invariant-loop-i
invariant-loop-i g l =
    (good : ℕ → Bool) → ((i : ℕ) (r : Bool) → i < l.n → goal.F-post g l.valid i r → r ≡ good i) → l.all ≡ all_below good l.i
