use Rattle.form.specs.Form.{group_bits}
use Rattle.coding.proofs.Joins.{◌▸◌}
use Rattle.coding.proofs.frame.group.Goals as goal

pub returns : goal.returns
unfolding group_bits
returns c =
    c.pack.ensures ▸ c.pack-2.ensures
