use Rattle.std.proofs.Common.{ap, rules, ℕ, ◌-◌, ◌∙◌}
use Rattle.salvaging.proofs.RunLoop.{turn, counted-turn, counted_end}
use Rattle.salvaging.proofs.runs.runs_width.Goals as goal

pub loop-i-preserved : goal.loop-i-preserved
loop-i-preserved c =
    let t = turn _ c.loop-i.invariant.1 c.requires (search rules) in
    (counted-turn c.requires t c.loop-i.invariant.0 c.since.ensures c.plus-width.ensures, t.come)

pub returns : goal.returns
returns c =
    let from = c.loop-i.from.0 in
    counted_end c.requires (search rules) c.loop-i.invariant.0 (c.since-2.ensures ∙ ap (λ (n : ℕ). n - from) c.end_of-end.ensures) c.plus.ensures
