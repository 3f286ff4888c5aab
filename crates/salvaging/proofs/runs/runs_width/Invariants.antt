-- `runs_width` meets its contract: what was counted and what is still to come make the whole (`RunLoop.antt`). Assumes nothing.
use Rattle.salvaging.proofs.RunLoop.{Come, Counted}
use Rattle.salvaging.proofs.runs.runs_width.Given as goal

abbrev pub invariant-loop-i : goal.invariant-loop-i
invariant-loop-i t =
    Counted t.payload t.fn.found t.from.0 t.i t.width.0 × Come t.payload t.fn.found t.from.0 t.i
