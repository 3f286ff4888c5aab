use Rattle.std.proofs.Common.{arith, refl, rules}
use Rattle.bits.proofs.Sticky.{kept, short, whole, plain, emptied}
use Rattle.bits.proofs.cursor.skip_if.Goals as goal
use Rattle.bits.proofs.cursor.skip_if.Goals.{else-on, then-on+else-c-eq0}

-- `bits::cursor::skip_if` meets its contract. Assumes nothing.
pub returns-then-end-to : goal.returns-then-end-to
returns-then-end-to c =
    record {
      reads = rw c.if-on.true (short (search rules) (omega arith) (omega arith) (search rules));
      empty = refl;
    }

pub returns-then-c-eq0 : goal.returns-then-c-eq0
returns-then-c-eq0 c =
    record {
      reads = rw c.if-on.true (whole (search rules) (omega arith) (omega arith) (search rules) refl);
      empty = refl;
    }

pub returns : goal.returns
returns c =
    emptied {d = c.args.c} c.with_value.ensures (elim c.if-on.branch [ then-on+else-c-eq0 w ↦ rw w.if-on.true (kept w.if-c-eq0.false) | else-on w ↦ rw w.if-on.false plain ])
