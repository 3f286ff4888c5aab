use Rattle.bits.proofs.Sticky.{plain}
use Rattle.oamd.specs.Block.{object_render_info}
use Rattle.syntax.proofs.Lines.{◌▸◌}
use Rattle.syntax.proofs.render.read_render.Goals as goal

pub returns : goal.returns
unfolding object_render_info
returns c =
    c.read_parts-parts.ensures.reads
    ▸ (rw c.has_position-positioned.ensures at c.read_position-p.ensures)
    ▸ (rw c.has_position-positioned.ensures at c.read_distance-d.ensures)
    ▸ (rw c.has_zone.ensures at c.read_zone-z.ensures)
    ▸ (rw c.has_size.ensures at c.read_extent-e.ensures)
    ▸ (rw c.has_screen.ensures at c.read_screen-n.ensures)
    ▸ (rw c.sends_any.ensures at c.take_if-snap.ensures.reads)
    ▸ plain
