use Rattle.std.proofs.Common.{arith}
use Rattle.reader.proofs.Whole.{too_long}
use Rattle.reader.proofs.read.Goals as goal

pub returns-then-len-gt-MOST_BYTES : goal.returns-then-len-gt-MOST_BYTES
returns-then-len-gt-MOST_BYTES c =
    rw c.refused_with.ensures (too_long _ _ _ _ (omega arith))
