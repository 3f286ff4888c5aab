use Rattle.oamd.specs.Meaning.{priority_of}
use Rattle.meaning.proofs.Choice.{tests}
use Rattle.meaning.proofs.values.priority_of.Goals as goal

pub returns-then-p-eq1 : goal.returns-then-p-eq1
unfolding priority_of
returns-then-p-eq1 c = search tests

pub returns-else-p-eq1 : goal.returns-else-p-eq1
unfolding priority_of
returns-else-p-eq1 c = search tests
