use Rattle.oamd.specs.Programme.{intermediate_spatial_format}
use Rattle.syntax.proofs.programme.read_isf.Goals as goal

pub returns : goal.returns
unfolding intermediate_spatial_format
returns c =
    rw c.has_isf.ensures at c.take_unless.ensures
