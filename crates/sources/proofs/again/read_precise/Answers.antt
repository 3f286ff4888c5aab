use Rattle.bits.proofs.Sticky.{plain, emptied}
use Rattle.oamd.specs.Extended.{ext_prec_pos_block}
use Rattle.syntax.proofs.Lines.{◌▸◌}
use Rattle.sources.proofs.again.read_precise.Goals as goal

pub returns : goal.returns
unfolding ext_prec_pos_block
returns c =
    emptied c.with_value.ensures
    (c.take_if-given.ensures.reads
    ▸ c.take_if-presence.ensures.reads
    ▸ (rw c.has_x.ensures at c.take_if-x.ensures.reads)
    ▸ (rw c.has_y.ensures at c.take_if-y.ensures.reads)
    ▸ (rw c.has_z.ensures at c.take_if-z.ensures.reads)
    ▸ plain)
