use Rattle.std.proofs.Common.{length, ◌≡◌}
use Rattle.oamd.specs.Tables.{room_bytes, most_trim}
use Rattle.summary.proofs.Turns.{Done}
use Rattle.summary.proofs.count_entries.Given as goal

-- `count_entries` meets its contract: before entry i, what stands is the summary of the entries before it (`Turns.antt`). Assumes nothing.
abbrev pub invariant-loop-i : goal.invariant-loop-i
invariant-loop-i t =
    (length t.room ≡ room_bytes) × (length t.trim ≡ most_trim) × Done t.store t.starts t.lengths t.s t.i
