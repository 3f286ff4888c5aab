use Rattle.bits.proofs.Sticky.{plain}
use Rattle.oamd.specs.Block.{extent}
use Rattle.syntax.proofs.Lines.{◌▸◌}
use Rattle.syntax.proofs.render.read_extent.Goals as goal

pub returns : goal.returns
unfolding extent
returns c =
    c.take_unless-index.ensures.reads
    ▸ c.take_if-all.ensures.reads
    ▸ c.take_if-width.ensures.reads
    ▸ c.take_if-depth.ensures.reads
    ▸ c.take_if-height.ensures.reads
    ▸ plain
