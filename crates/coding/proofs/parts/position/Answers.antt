use Rattle.coding.proofs.Groups.{group-behind, position_is}
use Rattle.coding.proofs.parts.position.Goals as goal

pub returns : goal.returns
returns c =
    group-behind (position_is c.args.first c.args.l c.z_sign-sign.ensures c.z_bits-size.ensures) c.either.ensures
