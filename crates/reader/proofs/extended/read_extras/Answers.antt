use Rattle.std.proofs.Common.{arith}
use Rattle.reader.proofs.Pass.{set_out, go_on_lem, give-up, arrive}
use Rattle.reader.proofs.extended.read_extras.Goals as goal

pub loop-i-init : goal.loop-i-init
loop-i-init g c = set_out _ _ _ _ _ _ _

pub returns-then-cur-ne0 : goal.returns-then-cur-ne0
returns-then-cur-ne0 g c = give-up _ _ _ _ _ _ _ c.loop-i.invariant c.if-cur-ne0.true

pub loop-i-preserved : goal.loop-i-preserved
loop-i-preserved g c =
    rw c.store.ensures
    (go_on_lem _ _ _ _ _ _ _ c.loop-i.invariant g.X.Extra.first _ g.X.Extra.bytes _ c.if-cur-ne0.false c.loop-i-test.true g.met.X.Extra.lays c.carries_at.ensures c.read-step.ensures)

pub returns : goal.returns
returns g c = arrive _ _ _ _ _ _ _ c.loop-i.invariant (omega arith)
