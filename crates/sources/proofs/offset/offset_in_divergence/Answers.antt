use Rattle.std.proofs.Common.{arith, refl, ◌∙◌}
use Rattle.sources.proofs.Spots.{of-divergence, no_divergence}
use Rattle.sources.proofs.offset.offset_in_divergence.Goals as goal

pub returns-in-InDivergence : goal.returns-in-InDivergence
returns-in-InDivergence c =
    record { is = c.in_divergence.ensures.is ∙ of-divergence c.args.f c.spot_of.ensures c.in-InDivergence.is c.args.d; small = omega arith }

pub returns-in_default : goal.returns-in_default
returns-in_default c =
    record { is = no_divergence _ c.args.d c.in_default.not-InDivergence ∙ of-divergence c.args.f c.spot_of.ensures refl c.args.d; small = omega arith }
