use Rattle.std.proofs.Common.{arith}
use Rattle.bits.proofs.Free.{looks-bits}
use Rattle.bits.proofs.sight.look.Goals as goal

pub returns : goal.returns
returns c =
    let seen = c.peek-value.ensures in
    (rw seen.0, record { looks = looks-bits seen.0 (omega arith); small = seen.1; near = omega arith })
