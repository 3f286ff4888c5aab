use Rattle.std.proofs.Common.{rules}
use Rattle.salvaging.proofs.Reports.{reporting_step}
use Rattle.salvaging.proofs.answer.report.Goals as goal

pub loop-i-preserved : goal.loop-i-preserved
loop-i-preserved c =
    (rw c.drop_of.ensures (reporting_step _ c.loop-i.invariant.0 (search rules) c.requires.1), search rules)
