use Rattle.std.proofs.Common.{◌≡◌, length, take, arith, length-take-le}
use lib.Seq.{take-length}
use Rattle.oamd.specs.Trim.{trim_needed}
use Rattle.reader.proofs.Whole.{stopped, refusing, no_room, no-trim-room, trim_fits, stored}
use Rattle.reader.proofs.keeping.read_kept.Goals as goal

pub returns-then-cur-ne0 : goal.returns-then-cur-ne0
returns-then-cur-ne0 c =
    rw (c.refused.ensures, c.raw.ensures, c.missing_bits-missing.ensures)
    (stopped _ _ _ _ c.read_payload-step.ensures c.if-cur-ne0.true)

pub returns-then-records-need : goal.returns-then-records-need
returns-then-records-need c =
    refusing c.no_room.ensures (no_room _ _ _ _ c.read_payload-step.ensures c.if-cur-ne0.false (omega arith))

pub returns-then-trim-taken : goal.returns-then-trim-taken
returns-then-trim-taken c =
    refusing c.no_room-then-trim-taken.ensures
    (no-trim-room _ _ _ _ c.read_payload-step.ensures c.if-cur-ne0.false (omega arith) (omega arith))

pub returns : goal.returns
returns c =
    let table = c.read_payload-step.new.table in
    let taken = trim_needed c.read_payload-step.result.value.programme.objects in
    let long : length (take taken table) ≡ taken = length-take-le taken table (omega (arith, trim_fits c.read_payload-step.ensures)) in
    rw c.accepted.ensures
    (stored _ _ _ _ c.read_payload-step.ensures c.if-cur-ne0.false (omega arith) (omega arith)
    c.lend_records.ensures (rw (take-length (take taken table), long, c.copy_from_slice.ensures.after)))
