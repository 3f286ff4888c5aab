use Rattle.std.proofs.Common.{arith}
use Rattle.reader.proofs.LendingLoop.{set_out, go_on_lem}
use Rattle.reader.proofs.lending.lend_records.Goals as goal
use Rattle.reader.proofs.lending.lend_records.Goals.{In-loop-i}

pub loop-i-init : goal.loop-i-init
loop-i-init c =
    set_out

pub loop-i-preserved : goal.loop-i-preserved
loop-i-preserved c =
    let given = c.requires in
    go_on_lem c.loop-i.invariant (omega arith) given.few given.stand.fits given.room c.copy_record.ensures c.time_of.ensures
    c.store_time.ensures c.next_block-blk.ensures
