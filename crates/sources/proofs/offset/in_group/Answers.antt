use Rattle.std.proofs.Common.{arith}
use Rattle.sources.specs.Offsets.{render_lines}
use Rattle.sources.proofs.Rows.{row-offset, no-group}
use Rattle.sources.proofs.offset.in_group.Goals as goal

pub returns-in-1 : goal.returns-in-1
unfolding render_lines
returns-in-1 c =
    rw (c.in-1.is, row-offset, ← c.has_position.ensures) (record { is = c.in_position.ensures.is; small = omega arith })

pub returns-in-2 : goal.returns-in-2
unfolding render_lines
returns-in-2 c =
    rw (c.in-2.is, row-offset, ← c.has_position-in-2.ensures) (record { is = c.in_distance.ensures.is; small = omega arith })

pub returns-in-3 : goal.returns-in-3
unfolding render_lines
returns-in-3 c =
    rw (c.in-3.is, row-offset, ← c.has_zone.ensures) (record { is = c.in_zone.ensures.is; small = omega arith })

pub returns-in-4 : goal.returns-in-4
unfolding render_lines
returns-in-4 c =
    rw (c.in-4.is, row-offset, ← c.has_size.ensures) (record { is = c.in_extent.ensures.is; small = omega arith })

pub returns-in-5 : goal.returns-in-5
unfolding render_lines
returns-in-5 c =
    rw (c.in-5.is, row-offset, ← c.has_screen.ensures) (record { is = c.in_screen.ensures.is; small = omega arith })

pub returns-in_default : goal.returns-in_default
returns-in_default c =
    record { is = no-group _ _ _ _ (omega arith) (omega arith) (omega arith) (omega arith) (omega arith); small = omega arith }
