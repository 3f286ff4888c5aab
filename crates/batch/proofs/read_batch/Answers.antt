use Rattle.std.proofs.Common.{sym, ◌∙◌}
use Rattle.batch.proofs.Calls.{no_room, room_for, shelf-read}
use Rattle.batch.proofs.read_batch.Goals as goal

-- `read_batch` meets its contract: nothing where there is no room for all, else the shelf. Assumes nothing.
pub returns-then-not-is_roomy : goal.returns-then-not-is_roomy
returns-then-not-is_roomy c = no_room _ _ _ _ _ _ _ c.batched.ensures c.number.ensures.0 (sym c.is_roomy.ensures ∙ c.if-not-is_roomy.true)

pub read_entries-requires : goal.read_entries-requires
read_entries-requires c = room_for _ _ _ _ _ _ _ _ (sym c.is_roomy.ensures ∙ c.if-not-is_roomy.false)

pub returns : goal.returns
returns c = shelf-read _ _ _ _ _ _ _ c.batched-2.ensures (sym c.is_roomy.ensures ∙ c.if-not-is_roomy.false) c.read_entries.ensures
