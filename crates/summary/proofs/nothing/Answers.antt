use Rattle.std.proofs.Common.{refl}
use Rattle.summary.specs.Summary.{refused_summary}
use Rattle.summary.proofs.nothing.Goals as goal

pub returns : goal.returns
unfolding refused_summary
returns c = refl
