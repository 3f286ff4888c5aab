use Rattle.bits.proofs.Sticky.{plain, reading}
use Rattle.oamd.specs.Block.{status_idx}
use Rattle.syntax.proofs.levels.read_status.Goals as goal

pub returns-then-none : goal.returns-then-none
unfolding status_idx
returns-then-none c =
    rw c.if-none.true plain

pub returns-then-first : goal.returns-then-first
unfolding status_idx
returns-then-first c =
    rw (c.if-none.false, c.if-first.true) plain

pub returns : goal.returns
unfolding status_idx
returns c =
    rw (c.if-none.false, c.if-first.false, c.status_of.ensures) (search reading)
