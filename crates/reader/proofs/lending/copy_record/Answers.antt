use Rattle.reader.proofs.LendingLoop.{copied}
use Rattle.reader.proofs.lending.copy_record.Goals as goal

pub returns : goal.returns
returns c =
    let args = c.args in
    copied args.from args.at args.records.now c.eight_at.ensures c.store_eight.ensures c.eight_at-2.ensures c.store_eight-2.ensures
    c.eight_at-3.ensures c.store_eight-3.ensures
