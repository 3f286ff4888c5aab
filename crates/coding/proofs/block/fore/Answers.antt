use Rattle.coding.specs.Packing.{fore_bits}
use Rattle.coding.proofs.Joins.{◌▸◌, ◌▹◌, nonempty}
use Rattle.coding.proofs.block.fore.Goals as goal

pub returns : goal.returns
unfolding fore_bits
returns c =
    nonempty (c.opening-p.ensures ▹ c.status-p.ensures ▸ c.position-p.ensures ▸ c.distance-p.ensures ▸ c.zone.ensures)
