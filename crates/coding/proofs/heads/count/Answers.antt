use Rattle.coding.proofs.Joins.{◌▸◌, behind_is}
use Rattle.coding.proofs.Values.{count_is}
use Rattle.coding.proofs.heads.count.Goals as goal

pub returns : goal.returns
returns c =
    behind_is (count_is c.args.n c.choice-low.ensures c.less-more.ensures) (c.pack.ensures ▸ c.pack_if.ensures)
