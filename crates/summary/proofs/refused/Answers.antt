use Rattle.std.proofs.Common.{ap₂}
use Rattle.summary.specs.declared.Summary.{Summary}
use Rattle.summary.specs.Summary.{refused_summary}
use Rattle.summary.proofs.refused.Goals as goal

pub returns : goal.returns
unfolding refused_summary
returns c = ap₂ (λ (s : Summary) (n : _). record s { place = c.args.place; refusal = n }) c.nothing.ensures c.number.ensures.0
