use Rattle.std.proofs.Common.{pow_pos}
use Rattle.bits.proofs.Sticky.{plain'}
use Rattle.bits.proofs.cursor.take_if.Goals as goal

pub returns-else-on : goal.returns-else-on
returns-else-on c =
    rw (c.if-on.false, c.with_value.ensures) (record { reads = plain'; small = pow_pos _ })
