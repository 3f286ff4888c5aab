use Rattle.std.proofs.Common.{arith, inl, inr, rules}
use Rattle.reader.proofs.SiftLoop.{pass_start, pass_stops, pass_on, refused_there, sifted_there}
use Rattle.reader.proofs.sifting.sift_elements.Goals as goal
use Rattle.reader.proofs.sifting.sift_elements.Goals.{in-Some, in_default}

pub loop-i-init : goal.loop-i-init
loop-i-init c =
    pass_start c.requires c.nothing_read-state.ensures c.none_gone-gone.ensures (search rules) c.no_trim-table.ensures.0 c.no_trim-table.ensures.1

pub returns-then-cur-ne0 : goal.returns-then-cur-ne0
returns-then-cur-ne0 c =
    let asked = c.requires in
    rw c.refused_at.ensures
    (refused_there asked (pass_stops asked c.loop-i.invariant c.loop-i-test.true c.scope_of-scope.ensures c.sift_element-turn.ensures c.if-cur-ne0.true))

pub loop-i-preserved : goal.loop-i-preserved
loop-i-preserved c =
    pass_on c.requires c.loop-i.invariant c.loop-i-test.true c.scope_of-scope.ensures c.sift_element-turn.ensures c.if-cur-ne0.false
    (elim c.match-turn.branch [ in-Some w ↦ inl (_, w.in-Some.is, w.gone-is, w.drops-is) | in_default w ↦ inr (w.in_default.not-Some, w.gone-is, w.drops-is) ])

pub returns : goal.returns
returns c =
    sifted_there c.requires c.loop-i.invariant (omega (arith, c.loop-i-test.false, c.loop-i.invariant.within))
