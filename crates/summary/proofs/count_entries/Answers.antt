use Rattle.std.proofs.Common.{arith, ℕ, ◌∙◌}
use lib.ListN.{length-replicate}
use Rattle.oamd.specs.Tables.{room_bytes, most_trim}
use Rattle.summary.proofs.Turns.{begun, fits, turn}
use Rattle.summary.proofs.count_entries.Goals as goal

pub loop-i-init : goal.loop-i-init
loop-i-init c = (length-replicate {A = ℕ} room_bytes 0, length-replicate {A = ℕ} most_trim 0, begun _ _ _ c.nothing-s.ensures)

pub count_entry-requires : goal.count_entry-requires
count_entry-requires c =
    let i = c.loop-i.invariant in
    fits _ _ _ c.requires.0 c.requires.1 i.2 (omega arith) _ _ _ _ _ i.0 i.1 c.read_entry-a.ensures c.read_entry-a.auto.records

pub loop-i-preserved : goal.loop-i-preserved
loop-i-preserved c =
    let i = c.loop-i.invariant in (
      c.read_entry-a.auto.records ∙ i.0,
      c.read_entry-a.auto.trim ∙ i.1,
      turn _ _ _ c.requires.0 c.requires.1 i.2 (omega arith) _ _ _ _ _ i.0 i.1 c.read_entry-a.ensures c.count_entry.ensures,
    )
