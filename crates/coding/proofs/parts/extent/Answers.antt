use Rattle.std.proofs.Common.{refl}
use Rattle.coding.proofs.Groups.{group-behind, extent_is}
use Rattle.coding.proofs.parts.extent.Goals as goal

pub returns : goal.returns
returns c =
    group-behind (extent_is c.args.v refl c.pick-width.ensures c.pick-value.ensures) c.either.ensures
