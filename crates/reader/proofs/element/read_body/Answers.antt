use Rattle.std.proofs.Common.{rules}
use Rattle.reader.proofs.ElementLoop.{passed, as-known}
use Rattle.reader.proofs.element.read_body.Goals as goal

pub returns-in-Unknown : goal.returns-in-Unknown
returns-in-Unknown c =
    rw c.in-Unknown.is (passed _ (search rules))

pub returns : goal.returns
returns c =
    as-known _ _ c.in_default.not-Unknown c.read_known.ensures
