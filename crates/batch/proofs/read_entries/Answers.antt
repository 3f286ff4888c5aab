use Rattle.std.proofs.Common.{length, arith, ap, ◌+◌, ◌≤◌, ◌∙◌}
use Rattle.oamd.specs.Tables.{answer_bytes}
use Rattle.batch.proofs.Shelves.{part_long, slot_fits, turn, ended}
use Rattle.batch.proofs.read_entries.Goals as goal

-- a turn reads entry i into its slots, which lie within their buffers, and lays the answer into its place
pub loop-i-preserved : goal.loop-i-preserved
loop-i-preserved c =
    let d = c.loop-i.invariant in
    let n = length c.args.starts.now in
    let turning = c.loop-i-test.true in
    let record-slot : c.loop-i.slot + c.args.recordslot ≤ length c.loop-i.records =
    omega (arith, d.at_slot, d.records-kept, c.requires.record-slots, slot_fits c.loop-i.i n c.args.recordslot turning) in
    let trim-slot : c.loop-i.trim + c.args.trimslot ≤ length c.loop-i.trims =
    omega (arith, d.at-trim, d.trims-kept, c.requires.trim-slots, slot_fits c.loop-i.i n c.args.trimslot turning) in
    let place-fits : c.loop-i.place + answer_bytes ≤ length c.loop-i.answers =
    omega (arith, d.at_place, d.answers-kept, c.requires.places, slot_fits c.loop-i.i n answer_bytes turning) in
    let laid = c.copy_from_slice.ensures.after in
    let page = c.answer_bytes-page.ensures in
    turn _ _ _ _ _ _ _ d c.requires.lists c.requires.numbered turning record-slot trim-slot place-fits
    (part_long c.loop-i.slot c.args.recordslot) (part_long c.loop-i.trim c.args.trimslot) (part_long c.loop-i.place answer_bytes)
    c.read_entry-a.auto.records c.read_entry-a.auto.trim (ap length laid ∙ page.1) c.read_entry-a.ensures (laid ∙ page.0)

pub returns : goal.returns
returns c = ended _ _ _ _ _ _ _ c.loop-i.invariant c.loop-i-test.false
