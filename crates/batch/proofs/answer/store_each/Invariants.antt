-- `store_each` meets its contract: before entry i, the entries before it stand (`Each.antt`). Assumes nothing.
use Rattle.std.proofs.Common.{◌*◌, ◌+◌, ◌≡◌}
use Rattle.batch.proofs.Each.{Filling}
use Rattle.batch.proofs.answer.store_each.Given as goal

abbrev pub invariant-loop-i : goal.invariant-loop-i
invariant-loop-i g t =
    (t.at ≡ t.from + t.i * g.T.Entry.WIDTH) × Filling g.T.Entry.bytes t.from t.entries t.initial.out t.out t.at t.i
