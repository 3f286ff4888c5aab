use Rattle.std.proofs.Common.{rules}
use Rattle.valid.proofs.Joined.{programme-parts}
use Rattle.valid.proofs.programme.programme_valid.Goals as goal

pub returns : goal.returns
returns c = rw programme-parts (search rules)
