use Rattle.std.proofs.Common.{ap, arith, eq-eqb, le-leb, ne_eqb, ℕ, ◌*◌, ◌+◌, ◌-◌, ◌<◌, ◌≡◌, ◌≤◌}
use borrow.Author.Tests.{lt-leb}
use Rattle.units.specs.declared.BitPos.{BitPos}
use Rattle.bits.specs.View.{open_at}
use Rattle.bits.proofs.cursor.open.Goals as goal

-- `bits::cursor::open` meets its contract. Assumes nothing.
abbrev position : ℕ → BitPos
position x = record { 0 = x }

pub returns-then-end-to : goal.returns-then-end-to
unfolding open_at
returns-then-end-to c =
    let a = c.args in
    let f : a.l.end.0 < a.c.at.0 + 8 * a.n.0 = omega arith in
    let m : c.raw.result + c.bits.result - c.raw-end.result ≡ a.c.at.0 + 8 * a.n.0 - a.l.end.0 = omega arith in
    let p : c.place_before.result ≡ position (a.c.at.0 - a.back) = ap position c.place_before.ensures in
    rw (eq-eqb _ _ c.if-c-eq0.true, lt-leb _ _ f, m, p, c.over.ensures)

pub returns-else-end-to : goal.returns-else-end-to
unfolding open_at
returns-else-end-to c =
    let a = c.args in
    let f : a.c.at.0 + 8 * a.n.0 ≤ a.l.end.0 = omega arith in
    rw (eq-eqb _ _ c.if-c-eq0.true, le-leb _ _ f)

pub returns-else-c-eq0 : goal.returns-else-c-eq0
unfolding open_at
returns-else-c-eq0 c =
    simp (ne_eqb _ _ c.if-c-eq0.false)
