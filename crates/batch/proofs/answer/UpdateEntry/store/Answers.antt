use Rattle.std.proofs.Common.{add_assoc}
use Rattle.oamd.specs.LeastFirst.{least_first}
use Rattle.oamd.specs.Batch.{update_bytes_of}
use Rattle.batch.proofs.answer.UpdateEntry.store.Goals as goal

pub returns : goal.returns
unfolding least_first update_bytes_of
returns c =
    rw (c.lay-2.ensures, c.lay.ensures, c.to_le_bytes-2.ensures, c.to_le_bytes.ensures, c.raw-2.ensures, c.raw.ensures) (simp add_assoc)
