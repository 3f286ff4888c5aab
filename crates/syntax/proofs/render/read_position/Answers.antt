use Rattle.std.proofs.Common.{eq-eqb, ne_eqb}
use Rattle.bits.proofs.Sticky.{plain}
use Rattle.oamd.specs.Block.{position}
use Rattle.syntax.proofs.Lines.{◌▸◌}
use Rattle.syntax.proofs.render.read_position.Goals as goal

pub returns-then-moved-eq1 : goal.returns-then-moved-eq1
unfolding position
returns-then-moved-eq1 c =
    c.take_if-moved.ensures.reads
    ▸ rw (c.if-on.true, eq-eqb _ _ c.if-moved-eq1.true) c.read_differences.ensures

pub returns-else-moved-eq1 : goal.returns-else-moved-eq1
unfolding position
returns-else-moved-eq1 c =
    c.take_if-moved.ensures.reads
    ▸ rw (c.if-on.true, ne_eqb _ _ c.if-moved-eq1.false) c.read_coordinates.ensures

pub returns-else-on : goal.returns-else-on
unfolding position
returns-else-on c =
    c.take_if-moved.ensures.reads ▸ rw c.if-on.false plain
