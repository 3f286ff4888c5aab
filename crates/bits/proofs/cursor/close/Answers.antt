use Rattle.std.proofs.Common.{eq-eqb, ne_eqb}
use Rattle.bits.specs.View.{close_at}
use Rattle.bits.proofs.cursor.close.Goals as goal

-- `bits::cursor::close` meets its contract. Assumes nothing.
pub returns-then-e-eq0 : goal.returns-then-e-eq0
unfolding close_at
returns-then-e-eq0 c =
    simp (eq-eqb _ _ c.if-e-eq0.true)

pub returns : goal.returns
unfolding close_at
returns c =
    simp (ne_eqb _ _ c.if-e-eq0.false)
