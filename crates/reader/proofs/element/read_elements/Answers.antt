use Rattle.std.proofs.Common.{inl, inr, arith}
use Rattle.reader.proofs.ElementLoop.{first, further, ended}
use Rattle.reader.proofs.element.read_elements.Goals as goal

pub loop-i-preserved : goal.loop-i-preserved
loop-i-preserved c =
    further c.loop-i.invariant (omega arith) c.read_element-step.auto.out c.read_element-step.ensures

pub loop-i-init : goal.loop-i-init
loop-i-init c = first c.requires

pub returns-then-cur-ne0 : goal.returns-then-cur-ne0
returns-then-cur-ne0 c = ended c.loop-i.invariant (inr c.if-cur-ne0.true)

pub returns : goal.returns
returns c = ended c.loop-i.invariant (inl (omega arith))
