use Rattle.std.proofs.Common.{ap, arith, drop, take, ℕ, ◌*◌, ◌+◌, ◌-◌, ◌≡◌}
use Rattle.oamd.specs.Tables.{record_bytes, record_stride}
use Rattle.text.proofs.LayLaws.{laid_is, rest_step, rest_end}
use Rattle.text.proofs.LineLaws.{count_more, count_none}
use Rattle.catalogue.proofs.frames.gather.Goals as goal
use Rattle.catalogue.proofs.frames.gather.Invariants.{row}

pub loop-j-preserved : goal.loop-j-preserved
loop-j-preserved c =
    let h = c.loop-j in
    let a = c.args in
    let from : ℕ = record_stride * (h.j * a.blocks + a.blk) in
    let long : from + record_bytes - from ≡ record_bytes = omega arith in (
      omega arith,
      rest_step _ _ (count_more (row a.blocks a.records.now a.blk) a.objects h.j c.loop-j-test.true) h.invariant.1
          (laid_is (ap (λ (n : ℕ). take n (drop from a.records.now)) long) c.lay_bytes-to.ensures),
    )

pub returns : goal.returns
returns c =
    let h = c.loop-j in
    let a = c.args in
    rest_end (count_none (row a.blocks a.records.now a.blk) a.objects h.j (omega arith)) h.invariant.1
