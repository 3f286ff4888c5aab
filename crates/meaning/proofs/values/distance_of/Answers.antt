use Rattle.oamd.specs.Meaning.{distance_of}
use Rattle.meaning.proofs.Choice.{tests}
use Rattle.meaning.proofs.values.distance_of.Goals as goal

pub returns-then-d-ne1 : goal.returns-then-d-ne1
unfolding distance_of
returns-then-d-ne1 c = search tests

pub returns-then-d-eq1 : goal.returns-then-d-eq1
unfolding distance_of
returns-then-d-eq1 c = search tests

pub returns : goal.returns
unfolding distance_of
returns c = search tests
