use Rattle.std.proofs.Common.{arith, length, ◌+◌, ◌*◌, ◌≤◌}
use Rattle.oamd.specs.Tables.{record_bytes}
use Rattle.reader.proofs.ObjectLoop.{enter, turn, leave}
use Rattle.reader.proofs.objects.read_object.Goals as goal
use Rattle.reader.proofs.objects.read_object.Goals.{In-loop-i}

-- in a turn the record fits
fits : (c : In-loop-i) → c.args.from + record_bytes * c.loop-i.i + record_bytes ≤ length c.loop-i.out
fits c = omega (arith, c.loop-i.invariant.size, c.requires.fits)

pub loop-i-init : goal.loop-i-init
loop-i-init c =
    rw c.idle-scene.ensures (enter _ _ _ _ _ _ _)

pub loop-i-preserved : goal.loop-i-preserved
loop-i-preserved c =
    rw c.store_scene.ensures
    (turn c.gain_of_object_before-gain.result c.loop-i.invariant (omega arith) (fits (goal.at.loop-i-preserved c).In-loop-i) c.gain_of_object_before-gain.ensures
    c.read_scene-step.ensures.reads)

pub returns : goal.returns
returns c = leave c.loop-i.invariant (omega arith)
