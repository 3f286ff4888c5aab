use Rattle.std.proofs.Common.{sym, ◌∙◌}
use Rattle.salvaging.proofs.Copies.{short-width, long-width}
use Rattle.salvaging.proofs.left.count_width.Goals as goal

pub returns-then-n-lt-LONG_COUNT : goal.returns-then-n-lt-LONG_COUNT
returns-then-n-lt-LONG_COUNT c =
    c.new.ensures ∙ sym (short-width _ c.if-n-lt-LONG_COUNT.true)

pub returns : goal.returns
returns c =
    c.new-2.ensures ∙ sym (long-width _ c.if-n-lt-LONG_COUNT.false)
