use Rattle.oamd.specs.Block.{distance}
use Rattle.syntax.proofs.Lines.{lines}
use Rattle.syntax.proofs.render.read_distance.Goals as goal

pub returns : goal.returns
unfolding distance
returns c =
    search lines
