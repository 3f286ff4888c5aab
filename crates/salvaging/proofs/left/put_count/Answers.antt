use Rattle.std.proofs.Common.{arith, rules}
use Rattle.laying.proofs.Laws.{laid-bind, laid_is, laid-within}
use Rattle.salvaging.proofs.Copies.{count-short, count_long}
use Rattle.salvaging.proofs.left.put_count.Goals as goal

pub returns-then-n-lt-LONG_COUNT : goal.returns-then-n-lt-LONG_COUNT
returns-then-n-lt-LONG_COUNT c =
    laid-within (omega arith) (laid_is (count-short _ (search rules)) c.put.ensures.laid)

pub returns : goal.returns
returns c =
    laid_is (count_long _ c.if-n-lt-LONG_COUNT.false) (laid-bind c.put-next.ensures.laid c.put-2.ensures.laid)
