use Rattle.std.proofs.Common.{ap, ap₂, arith, ℕ, ◌++◌, ◌∙◌}
use Rattle.oamd.specs.declared.Update.{Update}
use Rattle.oamd.specs.Tables.{most_blocks}
use Rattle.oamd.specs.LeastFirst.{least_first}
use Rattle.text.proofs.LayLaws.{laid-bind, laid_is, rest_step, rest_end}
use Rattle.text.proofs.LineLaws.{count_more, count_none}
use Rattle.catalogue.proofs.lending.lay_updates.Goals as goal

pub loop-blk-preserved : goal.loop-blk-preserved
loop-blk-preserved c =
    let h = c.loop-blk in
    let u = c.update_at-u.ensures in (
      omega arith,
      rest_step _ _ (count_more _ most_blocks h.blk (omega arith)) h.invariant.1
          (laid_is
          (ap₂ (λ (m n : ℕ). least_first 2 m ++ least_first 2 n) (c.raw.ensures ∙ ap (λ (u : Update). u.start.0) u) (c.raw-in-loop-blk.ensures ∙ ap (λ (u : Update). u.ramp.0) u))
          (laid-bind c.lay_least-to.ensures c.lay_least-to-in-loop-blk.ensures)),
    )

pub returns : goal.returns
returns c =
    let h = c.loop-blk in rest_end (count_none _ most_blocks h.blk (omega arith)) h.invariant.1
