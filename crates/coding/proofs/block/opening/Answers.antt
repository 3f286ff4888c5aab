use Rattle.std.proofs.Common.{ap}
use Rattle.bits.specs.Writes.{to_bits}
use Rattle.coding.specs.Packing.{opening_bits}
use Rattle.coding.proofs.Joins.{◌▸◌, ◌▹◌, behind_is}
use Rattle.coding.proofs.block.opening.Goals as goal

pub returns : goal.returns
unfolding opening_bits
returns c =
    let active = behind_is (ap (to_bits 1) c.less-idle.ensures) c.pack-p.ensures in
    c.nothing.ensures ▹ active ▸ c.status-p.ensures ▸ c.basic_if.ensures
