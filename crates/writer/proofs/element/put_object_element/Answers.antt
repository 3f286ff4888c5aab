use Rattle.laying.proofs.Laws.{laid_on}
use Rattle.writer.proofs.Around.{framed-laid}
use Rattle.writer.proofs.element.put_object_element.Goals as goal

pub returns-then-on : goal.returns-then-on
returns-then-on c =
    laid_on c.if-on.true
    (framed-laid c.requires.inside c.size_for-v.ensures 1 c.open_element-next.ensures c.put_object_fields-next.ensures c.close_element.ensures)
