-- `report` meets its contract: the drops of the elements before element i stand, and none behind them. Assumes nothing.
use Rattle.std.proofs.Common.{◌≤◌}
use Rattle.salvaging.proofs.Reports.{Reporting}
use Rattle.salvaging.proofs.answer.report.Given as goal

abbrev pub invariant-loop-i : goal.invariant-loop-i
invariant-loop-i t =
    Reporting t.fn.found.gone t.dropped t.i × (t.i ≤ t.fn.found.drops)
