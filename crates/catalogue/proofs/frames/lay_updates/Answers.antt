use Rattle.std.proofs.Common.{arith}
use Rattle.catalogue.specs.Parts.{front}
use Rattle.catalogue.proofs.WriteFrames.{updating_more, updating_end}
use Rattle.catalogue.proofs.frames.lay_updates.Goals as goal

pub loop-blk-preserved : goal.loop-blk-preserved
loop-blk-preserved c =
    let h = c.loop-blk in
    let a = c.args in (
      omega arith,
      updating_more a.objects.n a.t.blocks a.records.now a.t.updates (front a.latest.now) h.latest h.blk h.invariant.1 c.loop-blk-test.true
          c.lay_update-to.ensures,
    )

pub returns : goal.returns
returns c =
    let h = c.loop-blk in
    let a = c.args in
    updating_end a.objects.n a.t.blocks a.records.now a.t.updates (front a.latest.now) h.latest h.blk h.invariant.1 (omega arith)
