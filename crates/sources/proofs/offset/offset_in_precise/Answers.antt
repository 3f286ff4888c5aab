use Rattle.std.proofs.Common.{arith, refl, ◌∙◌}
use Rattle.sources.proofs.Spots.{of-precise, no-precise}
use Rattle.sources.proofs.offset.offset_in_precise.Goals as goal

pub returns-in-InPrecise : goal.returns-in-InPrecise
returns-in-InPrecise c =
    record { is = c.in_precise.ensures.is ∙ of-precise c.args.f c.spot_of.ensures c.in-InPrecise.is c.args.p; small = omega arith }

pub returns-in_default : goal.returns-in_default
returns-in_default c =
    record { is = no-precise _ c.args.p c.in_default.not-InPrecise ∙ of-precise c.args.f c.spot_of.ensures refl c.args.p; small = omega arith }
