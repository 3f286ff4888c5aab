use Rattle.syntax.proofs.Framing.{framed-gave}
use Rattle.syntax.proofs.frame.read_frame.Goals as goal

pub returns : goal.returns
returns c =
    let (value, groups, gave) = c.read_size-size.ensures in
    framed-gave _ c.take-id.ensures.reads gave.reads c.new-length.ensures c.open-begun.ensures c.inner_of-held.ensures
    c.take_if-other.ensures.reads c.take-discard.ensures.reads c.kind_of.ensures c.close.ensures c.with_value.ensures
