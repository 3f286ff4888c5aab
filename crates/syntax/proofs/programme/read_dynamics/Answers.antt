use Rattle.std.proofs.Common.{rules}
use Rattle.oamd.specs.Programme.{num_dynamic_objects}
use Rattle.syntax.proofs.Lines.{lines}
use Rattle.syntax.proofs.programme.read_dynamics.Goals as goal

pub returns : goal.returns
unfolding num_dynamic_objects
returns c =
    record { reads = search lines; small = rw c.with_value.ensures (search rules) }
