-- what is left of the row gives what the whole row gives
use Rattle.catalogue.proofs.RowsLaws.{RowLeft}
use Rattle.catalogue.proofs.rows.read_fields.Given as goal

abbrev pub invariant-loop-k : goal.invariant-loop-k
invariant-loop-k l = RowLeft l.full l.at l.fn.r l.r l.fn.rows l.rows l.k
