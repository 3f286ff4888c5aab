-- `named_by` meets its contract. Assumes nothing.
use Rattle.std.proofs.Common.{arith, eq-eqb, ne_eqb}
use Rattle.oamd.specs.Programme.{named}
use Rattle.meaning.proofs.Choice.{within}
use Rattle.meaning.proofs.programme.named_by.Goals as goal

-- a program of dynamic objects only
pub returns-then-p-eq1 : goal.returns-then-p-eq1
unfolding named
returns-then-p-eq1 c =
    (rw (eq-eqb _ _ c.if-p-eq1.true, c.saturating_sub.ensures), omega arith, omega arith, omega arith)

pub returns : goal.returns
unfolding named
returns c = (
  rw (ne_eqb _ _ c.if-p-eq1.false, c.all_beds.ensures.0, c.pick.ensures, c.pick-2.ensures, c.has_isf.ensures, c.has_dynamic.ensures, c.isf_objects.ensures),
  omega arith,
  rw c.pick.ensures (within c.has_isf.result (omega arith) (omega arith)),
  rw c.pick-2.ensures (within c.has_dynamic.result (omega arith) (omega arith)),
)
