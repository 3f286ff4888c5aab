use Rattle.bits.proofs.Sticky.{reading}
use Rattle.oamd.specs.Block.{differences}
use Rattle.syntax.proofs.render.read_differences.Goals as goal

pub returns : goal.returns
unfolding differences
returns c =
    search reading
