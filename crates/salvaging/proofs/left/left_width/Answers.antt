use Rattle.std.proofs.Common.{arith}
use Rattle.salvaging.proofs.Whole.{left-counted}
use Rattle.salvaging.proofs.left.left_width.Goals as goal

pub returns : goal.returns
returns c =
    left-counted c.requires (omega (arith, c.since-before.ensures, c.new.ensures)) c.kept.ensures c.count_width-count.ensures c.runs_width-behind.ensures
    c.plus.ensures c.plus-2.ensures
