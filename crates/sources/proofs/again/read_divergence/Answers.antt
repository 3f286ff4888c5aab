use Rattle.bits.proofs.Sticky.{plain, emptied}
use Rattle.oamd.specs.Extended.{obj_div_block}
use Rattle.syntax.proofs.Lines.{◌▸◌}
use Rattle.sources.proofs.again.read_divergence.Goals as goal

pub returns : goal.returns
unfolding obj_div_block
returns c =
    emptied c.with_value.ensures
    (c.take_if-used.ensures.reads
    ▸ c.take_unless-mode.ensures.reads
    ▸ c.take_if-table.ensures.reads
    ▸ c.take_unless-code.ensures.reads
    ▸ plain)
