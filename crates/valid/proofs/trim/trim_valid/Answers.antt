use Rattle.std.proofs.Common.{le-leb, ◌∙◌}
use Rattle.valid.proofs.Zeros.{trim-absent}
use Rattle.valid.proofs.trim.trim_valid.Goals as goal

pub returns-then-trim-eq0 : goal.returns-then-trim-eq0
returns-then-trim-eq0 c =
    rw (le-leb _ _ c.if-trim-needed.false) (c.zeros.ensures ∙ trim-absent _ _ c.if-trim-eq0.true)
