use Rattle.coding.specs.Packing.{aft_bits}
use Rattle.coding.proofs.Joins.{◌▸◌, ◌▹◌, nonempty}
use Rattle.coding.proofs.block.aft.Goals as goal

pub returns : goal.returns
unfolding aft_bits
returns c =
    nonempty (c.nothing.ensures ▹ c.extent-p.ensures ▸ c.screen.ensures ▸ c.pack.ensures ▸ c.pack-2.ensures)
