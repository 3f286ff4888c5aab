use Rattle.coding.proofs.Joins.{◌▹◌, nonempty, packs_is}
use Rattle.coding.proofs.Values.{update_is}
use Rattle.coding.proofs.timing.update.Goals as goal

pub returns : goal.returns
returns c =
    packs_is
    (update_is c.args.u c.raw-start.ensures c.raw-length.ensures c.ramp_code-code.ensures c.ramp_indexed-indexed.ensures c.ramp_index-index.ensures
    c.ramp_bits-bits.ensures)
    (nonempty ((c.nothing.ensures ▹ c.pack-p.ensures) ▹ c.ramp.ensures))
