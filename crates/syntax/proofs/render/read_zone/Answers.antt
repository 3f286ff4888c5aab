use Rattle.bits.proofs.Sticky.{reading}
use Rattle.oamd.specs.Block.{zone}
use Rattle.syntax.proofs.render.read_zone.Goals as goal

pub returns : goal.returns
unfolding zone
returns c =
    search reading
