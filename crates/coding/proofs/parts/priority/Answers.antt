use Rattle.coding.proofs.Groups.{group-behind, priority_is}
use Rattle.coding.proofs.parts.priority.Goals as goal

pub returns : goal.returns
returns c =
    group-behind (priority_is c.args.v) c.either.ensures
