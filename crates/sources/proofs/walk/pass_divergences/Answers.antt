use Rattle.sources.proofs.Passing.{passing_start, passing_step, passing-stop}
use Rattle.sources.proofs.walk.pass_divergences.Goals as goal

pub loop-i-init : goal.loop-i-init
loop-i-init c =
    passing_start

pub loop-i-preserved : goal.loop-i-preserved
loop-i-preserved c =
    passing_step c.loop-i.invariant c.loop-i-test.true (rw c.carries_at-carries.ensures at c.read_divergence.ensures.reads)

pub returns : goal.returns
returns c =
    passing-stop c.loop-i.invariant c.loop-i-test.false
