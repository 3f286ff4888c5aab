use Rattle.std.proofs.Common.{arith}
use Rattle.record.proofs.Times.{same_number}
use Rattle.record.proofs.time.has_time.Goals as goal

pub returns : goal.returns
returns c =
    let number = c.eight_at.ensures in
    rw (number.is, c.raw.ensures) (same_number 8 _ _ _ number.bytes (omega arith))
