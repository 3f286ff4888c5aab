use Rattle.reader.proofs.SiftLoop.{kept-turn, dropped-turn}
use Rattle.reader.proofs.sifting.sift_element.Goals as goal

pub returns-then-step-eq0 : goal.returns-then-step-eq0
returns-then-step-eq0 c =
    kept-turn c.requires c.read_element-step.ensures c.if-step-eq0.true

pub returns : goal.returns
returns c =
    dropped-turn c.requires c.read_element-step.ensures c.if-step-eq0.false c.drop_element.ensures
