use Rattle.std.proofs.Common.{add_assoc}
use Rattle.std.proofs.Math.Nat.{div-div-eq-div-mul}
use Rattle.oamd.specs.LeastFirst.{least_first}
use Rattle.oamd.specs.Batch.{bed_bytes_of}
use Rattle.batch.proofs.answer.BedEntry.store.Goals as goal

pub returns : goal.returns
unfolding least_first bed_bytes_of
returns c =
    rw (c.lay-2.ensures, c.lay.ensures, c.to_le_bytes.ensures) (simp (add_assoc, div-div-eq-div-mul))
