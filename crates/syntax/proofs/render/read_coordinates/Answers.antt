use Rattle.bits.proofs.Sticky.{reading}
use Rattle.oamd.specs.Block.{coordinates}
use Rattle.syntax.proofs.render.read_coordinates.Goals as goal

pub returns : goal.returns
unfolding coordinates
returns c =
    search reading
