use Rattle.catalogue.specs.Fields.{fields}
use Rattle.catalogue.proofs.RowsLaws.{now_of, key_of, byte-missing, key_behind}
use Rattle.catalogue.proofs.rows.behind_key.Goals as goal

pub returns-in_err-behind : goal.returns-in_err-behind
returns-in_err-behind c = rw c.from_residual.ensures (byte-missing _ _ _ c.in_err-behind.ensures)

pub returns : goal.returns
unfolding fields
returns c = key_behind _ _ _ c.args.r.now c.in_ok-behind.field-0 _ c.in_ok-behind.ensures c.behind-2.ensures (rw now_of (key_of c.args.k))
