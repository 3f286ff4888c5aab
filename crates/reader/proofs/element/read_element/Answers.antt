use Rattle.std.proofs.Common.{arith}
use Rattle.reader.proofs.ElementLoop.{framed-read}
use Rattle.reader.proofs.element.read_element.Goals as goal

pub returns : goal.returns
returns c =
    let (value, groups, gave) = c.read_size-step.ensures in
    framed-read c.take-id.ensures.reads gave.reads c.new-length.ensures c.open-begun.ensures c.inner_of-held.ensures
    c.take_if-other.ensures.reads c.take-discard.ensures.reads c.kind_of-kind.ensures (omega (arith, c.head_bits.ensures.is))
    c.read_body-body.ensures c.close.ensures
