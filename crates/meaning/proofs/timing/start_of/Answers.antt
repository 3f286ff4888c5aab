use Rattle.std.proofs.Common.{arith}
use Rattle.oamd.specs.Timing.{start_of}
use Rattle.meaning.proofs.timing.start_of.Goals as goal

pub returns : goal.returns
unfolding start_of
returns c =
    omega arith
