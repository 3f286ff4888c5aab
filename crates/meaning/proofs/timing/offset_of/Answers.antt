use Rattle.std.proofs.Common.{arith, ◌∙◌}
use Rattle.oamd.specs.Timing.{offset_of}
use Rattle.meaning.proofs.Choice.{tests}
use Rattle.meaning.proofs.timing.offset_of.Goals as goal

pub returns-then-o-eq0 : goal.returns-then-o-eq0
unfolding offset_of
returns-then-o-eq0 c =
    (c.new.ensures ∙ search tests, omega (arith, c.new.ensures))

pub returns-then-o-eq1 : goal.returns-then-o-eq1
unfolding offset_of
returns-then-o-eq1 c =
    (c.new-then-o-eq1.ensures ∙ search tests, omega arith)

pub returns : goal.returns
unfolding offset_of
returns c =
    (c.new-2.ensures ∙ search tests, omega arith)
