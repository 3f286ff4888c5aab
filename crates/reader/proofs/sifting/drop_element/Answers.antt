use Rattle.std.proofs.Common.{sym, ◌∙◌}
use Rattle.reader.proofs.SiftLoop.{goes}
use Rattle.reader.proofs.sifting.drop_element.Goals as goal

pub returns : goal.returns
returns c =
    goes c.requires (λ e. c.if-d-number.false (e ∙ sym c.number.ensures.0))
    c.take-id.ensures.reads c.read_frame-step.ensures.reads
