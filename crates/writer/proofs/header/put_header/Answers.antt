use Rattle.laying.proofs.Laws.{laid-bind, laid_is}
use Rattle.writer.proofs.Heads.{header-parts}
use Rattle.writer.proofs.Widths.{packed-laid}
use Rattle.writer.proofs.header.put_header.Goals as goal

pub returns : goal.returns
returns c =
    laid_is (header-parts c.args.programme)
    (laid-bind (packed-laid c.head.ensures c.put_packed-next.ensures)
    (laid-bind c.put_bed_list-next.ensures (packed-laid c.tail.ensures c.put_packed.ensures)))
