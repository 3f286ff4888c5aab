use Rattle.form.specs.Form.{divergence_bits}
use Rattle.coding.proofs.Joins.{◌▸◌, ◌▹◌}
use Rattle.coding.proofs.extras.divergence.Goals as goal

pub returns : goal.returns
unfolding divergence_bits
returns c =
    c.nothing.ensures ▹ c.pack_if.ensures ▸ c.pack_if-2.ensures ▸ c.pack_if-3.ensures ▸ c.pack_if-4.ensures
