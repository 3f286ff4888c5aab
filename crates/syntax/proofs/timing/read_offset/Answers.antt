use Rattle.bits.proofs.Sticky.{plain, emptied}
use Rattle.oamd.specs.Timing.{sample_offset}
use Rattle.syntax.proofs.Lines.{◌▸◌}
use Rattle.syntax.proofs.timing.read_offset.Goals as goal

pub returns : goal.returns
unfolding sample_offset
returns c =
    emptied c.with_value.ensures (c.take_unless-code.ensures.reads ▸ c.take_if-index.ensures.reads ▸ c.take_if-more.ensures.reads ▸ plain)
