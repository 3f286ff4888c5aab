use Rattle.std.proofs.Common.{add_assoc}
use Rattle.record.specs.Bytes.{scene_at, divergence_at}
use Rattle.valid.specs.Parts.{within_limits}
use Rattle.valid.proofs.Entries.{both-assoc}
use Rattle.valid.proofs.Limits.{or-zero}
use Rattle.valid.proofs.scenes.within_limits.Goals as goal

pub returns : goal.returns
unfolding within_limits scene_at divergence_at
returns c =
    simp (or-zero, c.over-4.ensures, c.over-3.ensures, c.over-2.ensures, c.over.ensures, both-assoc, add_assoc)
