use Rattle.std.proofs.Common.{rules}
use Rattle.catalogue.specs.Fields.{fields}
use Rattle.catalogue.proofs.RowsLaws.{least_of, most_of}
use Rattle.catalogue.proofs.rows.take_value.Goals as goal

pub returns-in_err-v : goal.returns-in_err-v
unfolding fields
returns-in_err-v c = rw (← least_of c.args.k, ← most_of c.args.k) (search rules)

pub returns : goal.returns
unfolding fields
returns c = rw (← least_of c.args.k, ← most_of c.args.k) (search rules)
