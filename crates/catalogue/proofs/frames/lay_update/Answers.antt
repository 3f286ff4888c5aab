use Rattle.std.proofs.Common.{arith, refl, ℕ}
use lib.ListN.{length-replicate}
use Rattle.oamd.specs.Tables.{most_objects}
use Rattle.catalogue.specs.Sheets.{rows_bytes}
use Rattle.catalogue.proofs.WriteFrames.{update-stepped}
use Rattle.catalogue.proofs.frames.lay_update.Goals as goal

pub returns : goal.returns
returns c =
    let a = c.args in
    update-stepped a.objects.n a.blocks a.records.now c.requires.within a.blk c.requires.blk_lt_blocks a.u a.latest.now a.objects refl (omega arith)
    (length-replicate {A = ℕ} (rows_bytes most_objects) 0) c.gather.ensures c.lay_change-to.ensures c.lay_bytes.ensures
