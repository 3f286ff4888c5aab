use Rattle.bits.proofs.Sticky.{reading}
use Rattle.oamd.specs.Block.{screen}
use Rattle.syntax.proofs.render.read_screen.Goals as goal

pub returns : goal.returns
unfolding screen
returns c =
    search reading
