use Rattle.std.proofs.Common.{ap, arith}
use Rattle.std.proofs.lemmas.List.{get_or-take}
use Rattle.oamd.specs.Timing.{no_update}
use Rattle.text.specs.Listing.{block_line, block_lines}
use Rattle.text.proofs.LayLaws.{laid_is, rest_step, rest_end}
use Rattle.text.proofs.LineLaws.{count_more, count_none}
use Rattle.text.proofs.listing.lay_updates.Goals as goal

pub loop-blk-preserved : goal.loop-blk-preserved
loop-blk-preserved c =
    let h = c.loop-blk in
    let t = c.args.t in (
      omega arith,
      rest_step _ _ (count_more _ _ h.blk (omega arith)) h.invariant.1
          (laid_is (ap (block_line h.blk) (get_or-take t.blocks t.updates h.blk no_update (omega arith))) c.lay_update-to.ensures),
    )

pub returns : goal.returns
unfolding block_lines
returns c =
    let h = c.loop-blk in rest_end (count_none _ _ h.blk (omega arith)) h.invariant.1
