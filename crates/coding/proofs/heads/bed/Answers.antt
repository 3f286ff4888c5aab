use Rattle.form.specs.Form.{bed_bits}
use Rattle.coding.proofs.Joins.{◌▸◌, ◌▹◌, nonempty}
use Rattle.coding.proofs.heads.bed.Goals as goal

pub returns : goal.returns
unfolding bed_bits
returns c =
    nonempty (c.nothing.ensures ▹ c.pack.ensures ▸ c.pack_if.ensures ▸ c.pack_if-2.ensures ▸ c.pack_if-3.ensures)
