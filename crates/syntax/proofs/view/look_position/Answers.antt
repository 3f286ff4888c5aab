use Rattle.std.proofs.Common.{arith, eq-eqb, ne_eqb}
use Rattle.bits.proofs.Free.{◌▹◌}
use Rattle.oamd.specs.Block.{position}
use Rattle.syntax.proofs.view.look_position.Goals as goal

pub returns-then-moved-eq1 : goal.returns-then-moved-eq1
unfolding position
returns-then-moved-eq1 c =
    let flag = c.look_if-moved.ensures.1 in
    let coded = c.look_differences.ensures in
    record { looks = flag.looks ▹ rw (eq-eqb _ _ c.if-moved-eq1.true) coded.looks; near = omega (arith, flag.near, coded.near) }

pub returns-else-moved-eq1 : goal.returns-else-moved-eq1
unfolding position
returns-else-moved-eq1 c =
    let flag = c.look_if-moved.ensures.1 in
    let coded = c.look_coordinates.ensures in
    record { looks = flag.looks ▹ rw (ne_eqb _ _ c.if-moved-eq1.false) coded.looks; near = omega (arith, flag.near, coded.near) }
