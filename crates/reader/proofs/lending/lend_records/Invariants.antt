use Rattle.reader.proofs.LendingLoop.{Going}
use Rattle.reader.proofs.lending.lend_records.Given as goal

abbrev pub invariant-loop-i : goal.invariant-loop-i
invariant-loop-i t =
    Going t.count t.frame t.timing t.scratch t.initial.records t.blk t.i t.records
