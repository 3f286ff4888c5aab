use Rattle.std.proofs.Common.{rules}
use Rattle.catalogue.proofs.RowsLaws.{entries_start, entries_step}
use Rattle.catalogue.proofs.rows.read_entries.Goals as goal

pub loop-j-init : goal.loop-j-init
loop-j-init c = (entries_start _ _ _ _ _, c.in_ok-next.ensures.within)

pub loop-j-preserved : goal.loop-j-preserved
loop-j-preserved c =
    let step = c.in_ok-next-2.ensures in (entries_step c.loop-j.invariant.0 c.loop-j-test.true _ _ _ step.by_index (search rules), step.within)
