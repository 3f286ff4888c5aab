use Rattle.std.proofs.Common.{arith}
use Rattle.reader.proofs.ObjectLoop.{first, further, finish}
use Rattle.reader.proofs.objects.read_objects.Goals as goal
use Rattle.reader.proofs.objects.read_objects.Goals.{In-loop-j}

pub loop-j-preserved : goal.loop-j-preserved
loop-j-preserved c =
    further _ c.loop-j.invariant (omega arith) c.class_of-class.ensures c.read_object-cur.ensures

pub loop-j-init : goal.loop-j-init
loop-j-init c = first _ _ _ _ _ _ _

pub returns : goal.returns
returns c = finish c.loop-j.invariant (omega arith)
