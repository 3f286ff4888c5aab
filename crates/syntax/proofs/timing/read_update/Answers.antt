use Rattle.bits.proofs.Sticky.{plain, emptied}
use Rattle.oamd.specs.Timing.{block_update_info}
use Rattle.syntax.proofs.Lines.{◌▸◌}
use Rattle.syntax.proofs.timing.read_update.Goals as goal

pub returns : goal.returns
unfolding block_update_info
returns c =
    emptied c.with_value.ensures
    (c.take-factor.ensures.reads
    ▸ c.take-code.ensures.reads
    ▸ c.take_if-indexed.ensures.reads
    ▸ c.take_if-index.ensures.reads
    ▸ c.take_if-ramp.ensures.reads
    ▸ plain)
