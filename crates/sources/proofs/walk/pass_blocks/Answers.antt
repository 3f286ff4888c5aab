use Rattle.oamd.specs.ObjectElement.{object_data}
use Rattle.sources.proofs.Passing.{passing_start, passing_step, passing-stop}
use Rattle.sources.proofs.walk.pass_blocks.Goals as goal

pub loop-i-init : goal.loop-i-init
loop-i-init c =
    passing_start

pub loop-i-preserved : goal.loop-i-preserved
loop-i-preserved c =
    passing_step c.loop-i.invariant c.loop-i-test.true c.read_block.ensures.reads

pub returns : goal.returns
unfolding object_data
returns c =
    passing-stop c.loop-i.invariant c.loop-i-test.false
