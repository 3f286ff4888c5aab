use Rattle.std.proofs.Common.{arith}
use Rattle.oamd.specs.Programme.{shares}
use Rattle.meaning.proofs.programme.shares.Goals as goal

pub returns : goal.returns
unfolding shares
returns c =
    (rw (← c.named_by-n.ensures.0, c.saturating_sub.ensures), omega arith, omega arith)
