use Rattle.coding.proofs.Joins.{◌▸◌, behind_is}
use Rattle.coding.proofs.Values.{size_is}
use Rattle.coding.proofs.frame.groups.Goals as goal

pub returns : goal.returns
returns c =
    behind_is (size_is c.args.v c.minus-a.ensures c.minus-b.ensures c.minus-c.ensures)
    (c.group_if-p.ensures ▸ c.group_if-p-2.ensures ▸ c.group_if-p-3.ensures ▸ c.group.ensures)
