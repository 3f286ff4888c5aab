use Rattle.std.proofs.Common.{refl, rules}
use Rattle.bits.proofs.Sticky.{plain, banned}
use Rattle.bits.proofs.cursor.refuse_if.Goals as goal

-- `bits::cursor::refuse_if` meets its contract. Assumes nothing.
pub returns-then-c-eq0 : goal.returns-then-c-eq0
returns-then-c-eq0 c =
    (refl, rw c.if-on.true (banned (search rules) (search rules) c.number.ensures.0 c.number.ensures.1))

pub returns-else-on : goal.returns-else-on
returns-else-on c =
    (refl, rw c.if-on.false plain)
