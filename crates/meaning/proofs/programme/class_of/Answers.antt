use Rattle.std.proofs.Common.{arith, false, le-ltb, lt-ltb, ltb, true, ℕ, ◌+◌, ◌-◌, ◌<◌, ◌≡◌, ◌≤◌}
use Rattle.oamd.specs.Programme.{class_of}
use Rattle.meaning.proofs.Choice.{tests}
use Rattle.meaning.proofs.programme.class_of.Goals as goal

-- the code compares without the sum, which could wrap
below : (j a b : ℕ) → a ≤ j → j - a < b → ltb j (a + b) ≡ true
below j a b h l = lt-ltb j (a + b) (omega arith)

beyond : (j a b : ℕ) → a ≤ j → b ≤ j - a → ltb j (a + b) ≡ false
beyond j a b h l = le-ltb j (a + b) (omega arith)

pub returns-then-j-s : goal.returns-then-j-s
unfolding class_of
returns-then-j-s c = search tests

pub returns-then-j-s-2 : goal.returns-then-j-s-2
unfolding class_of
returns-then-j-s-2 c = search (tests, below)

pub returns : goal.returns
unfolding class_of
returns c = search (tests, beyond)
