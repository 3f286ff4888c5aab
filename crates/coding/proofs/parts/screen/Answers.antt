use Rattle.coding.proofs.Groups.{group-behind, screen_is}
use Rattle.coding.proofs.parts.screen.Goals as goal

pub returns : goal.returns
returns c =
    group-behind (screen_is c.args.s) c.either.ensures
