use Rattle.bits.proofs.Sticky.{plain}
use Rattle.oamd.specs.Block.{object_basic_info}
use Rattle.syntax.proofs.Lines.{◌▸◌}
use Rattle.syntax.proofs.levels.read_basic.Goals as goal

pub returns : goal.returns
unfolding object_basic_info
returns c =
    c.read_parts-parts.ensures.reads
    ▸ (rw c.has_gain.ensures at c.take_if-index.ensures.reads)
    ▸ c.take_if-level.ensures.reads
    ▸ (rw c.has_priority-ranked.ensures at c.take_if-bydefault.ensures.reads)
    ▸ (rw c.has_priority-ranked.ensures at c.take_if-rank.ensures.reads)
    ▸ plain
