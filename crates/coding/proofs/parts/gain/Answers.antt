use Rattle.coding.proofs.Groups.{group-behind, gain_is}
use Rattle.coding.proofs.parts.gain.Goals as goal

pub returns : goal.returns
returns c =
    group-behind (gain_is c.args.v c.pick-most.ensures c.less-below.ensures c.pick-width.ensures c.pick-value.ensures) c.either.ensures
