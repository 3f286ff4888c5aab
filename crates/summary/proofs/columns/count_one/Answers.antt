use Rattle.std.proofs.Common.{le-ltb, lt-ltb, refl}
use Rattle.summary.specs.Counting.{bumped}
use Rattle.summary.proofs.columns.count_one.Goals as goal

pub returns-then-at-counts : goal.returns-then-at-counts
unfolding bumped
returns-then-at-counts c =
    let h = lt-ltb _ _ c.if-at-counts.true in rw h refl

pub returns-else-at-counts : goal.returns-else-at-counts
unfolding bumped
returns-else-at-counts c =
    let h = le-ltb _ _ c.if-at-counts.false in rw h refl
