use Rattle.std.proofs.Common.{rules}
use Rattle.reader.proofs.ElementLoop.{known-refused, known_read}
use Rattle.reader.proofs.Gates.{gated}
use Rattle.reader.proofs.element.read_known.Goals as goal

pub returns-then-timely-ne0 : goal.returns-then-timely-ne0
returns-then-timely-ne0 c =
    known-refused _ _ (search rules) (gated _ _ _ _ c.is_second.ensures c.refuse_if-first.ensures)
    (gated _ _ _ _ c.is_early.ensures c.refuse_if-timely.ensures) c.if-timely-ne0.true

pub returns : goal.returns
returns c =
    known_read _ _ (search rules) (gated _ _ _ _ c.is_second.ensures c.refuse_if-first.ensures)
    (gated _ _ _ _ c.is_early.ensures c.refuse_if-timely.ensures) c.if-timely-ne0.false c.read_fields.ensures
