use Rattle.std.proofs.Common.{arith}
use Rattle.reader.proofs.SiftLoop.{too_long, uncounted}
use Rattle.reader.proofs.sifting.sift.Goals as goal

pub returns-then-len-gt-MOST_BYTES : goal.returns-then-len-gt-MOST_BYTES
returns-then-len-gt-MOST_BYTES c =
    rw c.number.ensures.0 (too_long _ (omega arith))

pub returns-then-count-ne0 : goal.returns-then-count-ne0
returns-then-count-ne0 c =
    rw c.refused_at.ensures
    (uncounted c.read_head-head.ensures c.limit_of-l.ensures c.read_element_count-count.ensures.reads c.if-count-ne0.true)
