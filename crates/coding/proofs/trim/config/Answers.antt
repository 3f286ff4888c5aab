use Rattle.form.specs.Form.{config_bits}
use Rattle.coding.proofs.Joins.{◌▸◌, ◌▹◌, nonempty}
use Rattle.coding.proofs.trim.config.Goals as goal

pub returns : goal.returns
unfolding config_bits
returns c =
    nonempty (c.nothing.ensures ▹ c.pack.ensures ▸ c.pack_if.ensures ▸ c.pack_if-p.ensures ▸ c.trims.ensures)
