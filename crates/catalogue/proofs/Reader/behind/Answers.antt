use Rattle.std.proofs.Common.{rules}
use Rattle.catalogue.proofs.ScanLaws.{stands, missing}
use Rattle.catalogue.proofs.Reader.behind.Goals as goal

pub returns-in_err-rest : goal.returns-in_err-rest
returns-in_err-rest c = rw c.from_residual.ensures (missing _ _ c.in_err-rest.ensures.cases)

pub returns : goal.returns
returns c = search (rules, stands)
