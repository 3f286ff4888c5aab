use Rattle.std.proofs.Common.{arith, pow_pos, refl}
use Rattle.bits.proofs.Free.{looks-give}
use Rattle.bits.proofs.sight.look_if.Goals as goal

pub returns-else-on : goal.returns-else-on
returns-else-on c =
    rw c.if-on.false (refl, record { looks = looks-give; small = pow_pos _; near = omega arith })
