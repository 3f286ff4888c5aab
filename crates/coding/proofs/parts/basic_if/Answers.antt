use Rattle.form.specs.Form.{basic_bits}
use Rattle.coding.proofs.Joins.{◌▸◌, behind_if}
use Rattle.coding.proofs.parts.basic_if.Goals as goal

pub returns : goal.returns
unfolding basic_bits
returns c =
    behind_if c.args.active c.requires (c.gain.ensures ▸ c.priority.ensures) c.kept_if.ensures
