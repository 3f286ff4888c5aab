use Rattle.std.proofs.Common.{ap, arith, le-leb, true, ℕ, ◌*◌, ◌+◌, ◌<◌, ◌≡◌, ◌≤◌}
use borrow.Author.Tests.{lt-leb}
use Rattle.bits.specs.declared.Limit.{Limit}
use Rattle.bits.specs.View.{inner_of}
use Rattle.bits.proofs.cursor.inner_of.Goals as goal

-- `bits::cursor::inner_of` meets its contract. Assumes nothing.
abbrev up_to : ℕ → Limit
up_to x = record { end = record { 0 = x }; inner = true }

pub returns-then-to-raw : goal.returns-then-to-raw
unfolding inner_of
returns-then-to-raw c =
    let a = c.args in
    let f : a.c.at.0 + 8 * a.n.0 ≤ a.l.end.0 = omega arith in
    let e : c.new.result.0 ≡ a.c.at.0 + 8 * a.n.0 = omega arith in
    rw (le-leb _ _ f) (ap up_to e)

pub returns-else-to-raw : goal.returns-else-to-raw
unfolding inner_of
returns-else-to-raw c =
    let a = c.args in
    let f : a.l.end.0 < a.c.at.0 + 8 * a.n.0 = omega arith in
    rw (lt-leb _ _ f)
