use Rattle.std.proofs.Common.{◌∙◌}
use Rattle.oamd.specs.Timing.{ramp_of}
use Rattle.meaning.proofs.Choice.{tests}
use Rattle.meaning.proofs.timing.ramp_of.Goals as goal

pub returns-then-u-ne3 : goal.returns-then-u-ne3
unfolding ramp_of
returns-then-u-ne3 c =
    c.new.ensures ∙ search tests

pub returns-then-u-eq1 : goal.returns-then-u-eq1
unfolding ramp_of
returns-then-u-eq1 c =
    c.new-then-u-eq1.ensures ∙ search tests

pub returns : goal.returns
unfolding ramp_of
returns c =
    c.new-2.ensures ∙ search tests
