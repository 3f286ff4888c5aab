use Rattle.std.proofs.Common.{ap}
use Rattle.bits.specs.Writes.{to_bits}
use Rattle.form.specs.Form.{offset_bits}
use Rattle.coding.proofs.Joins.{◌▸◌, ◌▹◌, nonempty, packs_is, behind_is}
use Rattle.coding.proofs.timing.lead.Goals as goal

pub returns : goal.returns
unfolding offset_bits
returns c =
    nonempty (packs_is (ap offset_bits c.coded_offset-offset.ensures) (c.nothing.ensures ▹ c.pack.ensures ▸ c.pack_if.ensures ▸ c.pack_if-2.ensures)
    ▹ behind_is (ap (to_bits 3) c.less-more.ensures) c.pack-2.ensures)
