use Rattle.std.proofs.Common.{ap, arith, drop, take, ℕ, ◌*◌, ◌+◌, ◌≡◌}
use Rattle.oamd.specs.Tables.{record_stride}
use Rattle.text.specs.Listing.{record_line}
use Rattle.text.proofs.LayLaws.{laid_is, rest_step, rest_end}
use Rattle.text.proofs.LineLaws.{count_more, count_none}
use Rattle.text.proofs.listing.lay_object.Invariants.{line_of}
use Rattle.text.proofs.listing.lay_object.Goals as goal

pub loop-blk-preserved : goal.loop-blk-preserved
loop-blk-preserved c =
    let a = c.args in
    let at : a.from + record_stride * c.loop-blk.blk ≡ record_stride * (a.object * a.blocks + c.loop-blk.blk) = omega arith in (
      omega arith,
      rest_step _ _ (count_more (line_of a.object a.blocks a.records.now) a.blocks c.loop-blk.blk (omega arith)) c.loop-blk.invariant.1
          (laid_is (ap (λ (p : ℕ). record_line a.object c.loop-blk.blk (take record_stride (drop p a.records.now))) at) c.lay_record-to.ensures),
    )

pub returns : goal.returns
returns c =
    let h = c.loop-blk in rest_end (count_none _ _ h.blk (omega arith)) h.invariant.1
