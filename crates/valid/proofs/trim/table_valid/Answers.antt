use Rattle.valid.proofs.Joined.{parts, trim-parts}
use Rattle.valid.proofs.trim.table_valid.Goals as goal

pub returns : goal.returns
returns c = rw (trim-parts _ _) (search parts depth 12)
