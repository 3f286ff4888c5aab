use Rattle.std.proofs.Common.{refl, rules}
use Rattle.catalogue.proofs.BackUpdates.{going, going_more, going-bad, gone}
use Rattle.catalogue.proofs.sheets.read_updates.Goals as goal

pub loop-blk-init : goal.loop-blk-init
loop-blk-init c = let a = c.args in going a.r.now a.objects a.blocks a.rows.now a.store.now _ c.requires.1 refl

pub loop-blk-preserved : goal.loop-blk-preserved
loop-blk-preserved c =
    let u = c.in_ok-updates.ensures in
    going_more c.loop-blk.invariant c.requires.0 c.loop-blk-test.true c.read_update.new.r c.read_update.new.rows _ u.count u.long u.change c.lay_bytes.ensures

pub returns-in_err-updates : goal.returns-in_err-updates
returns-in_err-updates c = record {
  changes = let e = going-bad c.loop-blk.invariant c.loop-blk-test.true c.in_err-updates.ensures.change in search rules;
  last = search rules;
  many = search rules;
}

pub returns : goal.returns
returns c =
    let all = gone c.loop-blk.invariant c.loop-blk-test.false in
    record { changes = all.0; last = all.1; many = refl }
