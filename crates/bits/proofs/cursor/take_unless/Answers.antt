use Rattle.std.proofs.Common.{pow_pos}
use Rattle.bits.proofs.Sticky.{bind, plain'}
use Rattle.bits.proofs.cursor.take_unless.Goals as goal

-- `bits::cursor::take_unless` meets its contract. Assumes nothing.
pub returns-then-on : goal.returns-then-on
returns-then-on c =
    rw c.if-on.true (record {
      reads = bind c.take-read.ensures.reads (rw c.in_range-reserved.ensures at c.refuse_if.ensures.1);
      small = rw c.refuse_if.ensures.0 c.take-read.ensures.small;
    })

pub returns-else-on : goal.returns-else-on
returns-else-on c =
    rw (c.if-on.false, c.with_value.ensures) (record { reads = plain'; small = pow_pos _ })
