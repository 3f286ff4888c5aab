use Rattle.coding.proofs.Groups.{group-behind, distance_is}
use Rattle.coding.proofs.parts.distance.Goals as goal

pub returns : goal.returns
returns c =
    group-behind (distance_is c.args.v c.less-index.ensures c.pick-width.ensures c.pick-value.ensures) c.either.ensures
