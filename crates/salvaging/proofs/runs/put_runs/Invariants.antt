-- `put_runs` meets its contract: whoever lays the runs left from here has laid all from the start (`RunLoop.antt`). Assumes nothing.
use Rattle.std.proofs.Common.{◌-◌}
use Rattle.laying.proofs.Laws.{Rest}
use Rattle.salvaging.specs.Parts.{runs_by}
use Rattle.salvaging.proofs.RunLoop.{runs_from, Come}
use Rattle.salvaging.proofs.runs.put_runs.Given as goal

abbrev pub invariant-loop-i : goal.invariant-loop-i
invariant-loop-i t =
    Rest (t.from.0 - t.fn.found.body.0) t.initial.out t.out t.initial.next t.next (runs_by t.payload t.fn.found) (runs_from t.payload t.fn.found t.from.0 t.i)
    × Come t.payload t.fn.found t.from.0 t.i
