use Rattle.sources.proofs.Passing.{passing_start, passing_step, passing-stop, reclassed}
use Rattle.sources.proofs.walk.pass_objects.Goals as goal

pub loop-j-init : goal.loop-j-init
loop-j-init c =
    passing_start

pub loop-j-preserved : goal.loop-j-preserved
loop-j-preserved c =
    passing_step c.loop-j.invariant c.loop-j-test.true (reclassed _ c.class_of-class.ensures c.pass_blocks-cur.ensures).reads

pub returns : goal.returns
returns c =
    passing-stop c.loop-j.invariant c.loop-j-test.false
