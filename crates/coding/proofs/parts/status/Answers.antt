use Rattle.form.specs.Form.{status_bits}
use Rattle.coding.proofs.parts.status.Goals as goal

pub returns : goal.returns
unfolding status_bits
returns c =
    c.pack_if.ensures
