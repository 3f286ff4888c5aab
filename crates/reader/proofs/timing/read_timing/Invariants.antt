use Rattle.std.proofs.Common.{◌≤◌}
use Rattle.bits.specs.Language.{give, bit}
use Rattle.oamd.specs.Tables.{most_blocks}
use Rattle.oamd.specs.Timing.{MdUpdateInfo, block_update_info, offset_of, update_of, no_update}
use Rattle.syntax.proofs.Filled.{Filling}
use Rattle.reader.proofs.timing.read_timing.Given as goal

-- The array holds what was read so far, filled up.
-- before block i of n, of which each update counts from the offset
abbrev pub invariant-loop-i : goal.invariant-loop-i
invariant-loop-i t =
    (t.i ≤ t.n) × Filling t.n (λ blk. block_update_info) (λ bs. give {A = MdUpdateInfo} (record { offset = t.start.value; blocks = bs })) (update_of (offset_of t.start.value)) most_blocks no_update
    (bit t.s) t.initial.cur t.l t.timing.updates t.cur t.i
