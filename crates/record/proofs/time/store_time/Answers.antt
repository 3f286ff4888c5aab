use Rattle.std.proofs.Common.{add_assoc}
use Rattle.oamd.specs.LeastFirst.{least_first}
use Rattle.record.proofs.time.store_time.Goals as goal

pub returns : goal.returns
unfolding least_first
returns c =
    rw c.raw.ensures at (simp add_assoc at c.store_eight.ensures)
