use Rattle.form.specs.Form.{zone_bits}
use Rattle.coding.proofs.Joins.{◌▸◌}
use Rattle.coding.proofs.parts.zone.Goals as goal

pub returns : goal.returns
unfolding zone_bits
returns c =
    c.pack.ensures ▸ c.pack-2.ensures
