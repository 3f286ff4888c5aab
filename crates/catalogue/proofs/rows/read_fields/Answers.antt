use Rattle.std.proofs.Common.{rules}
use Rattle.catalogue.proofs.RowsLaws.{row_start, row_step, row_stop, row_whole}
use Rattle.catalogue.proofs.rows.read_fields.Goals as goal

pub loop-k-init : goal.loop-k-init
loop-k-init c = row_start _ _ _ _

pub returns-in_err-read_field : goal.returns-in_err-read_field
returns-in_err-read_field c =
    let e = row_stop c.loop-k.invariant c.loop-k-test.true c.in_err-read_field.ensures in search rules

pub loop-k-preserved : goal.loop-k-preserved
loop-k-preserved c = row_step c.loop-k.invariant _ _ c.loop-k-test.true c.in_ok-read_field.ensures (search rules)

pub returns : goal.returns
returns c = row_whole c.loop-k.invariant c.loop-k-test.false
