use Rattle.std.proofs.Common.{ap, arith, length, rules, sym, ℕ, ◌*◌, ◌-◌, ◌∙◌, ◌≡◌}
use Rattle.bits.specs.Language.{slice, bit}
use Rattle.laying.proofs.Laws.{rest_step, laid_is, laid-within}
use Rattle.salvaging.proofs.RunLoop.{runs_end, come_most, turn, turn_most}
use Rattle.salvaging.proofs.runs.put_runs.Goals as goal
use Rattle.salvaging.proofs.runs.put_runs.Goals.{After-since-2}

-- the last run ends with the payload
to_end : (c : After-since-2) → c.since-2.result.0 ≡ 8 * length c.args.payload.now - c.loop-i.from.0
to_end c = c.since-2.ensures ∙ ap (λ (n : ℕ). n - c.loop-i.from.0) c.end_of-end.ensures

pub copy_run-next-requires : goal.copy_run-next-requires
copy_run-next-requires c =
    let most = turn_most (turn _ c.loop-i.invariant.1 c.requires.fair (search rules)) c.since.ensures in
    (omega (arith, most, c.requires.fair.short), omega (arith, most, c.requires.fair.short, c.requires.most_bits_bound, c.loop-i.invariant.0.most))

pub loop-i-preserved : goal.loop-i-preserved
loop-i-preserved c =
    let t = turn _ c.loop-i.invariant.1 c.requires.fair (search rules) in (
      rest_step (omega (arith, t.after, t.some, c.since.ensures, c.loop-i.invariant.1.behind)) t.runs c.loop-i.invariant.0
          (laid_is (ap (slice (bit c.args.payload.now) c.loop-i.from.0) c.since.ensures) c.copy_run-next.ensures),
      t.come,
    )

pub copy_run-requires : goal.copy_run-requires
copy_run-requires c =
    let run = to_end (goal.at.copy_run-requires c).After-since-2 in
    let most = come_most c.loop-i.invariant.1 in
    (omega (arith, run, most, c.requires.fair.short), omega (arith, run, most, c.requires.fair.short, c.requires.most_bits_bound, c.loop-i.invariant.0.most))

pub returns : goal.returns
returns c =
    let s = c.args.payload.now in
    let from = c.loop-i.from.0 in
    let run = to_end (goal.at.returns c).After-since-2 in
    let last-run = laid_is (ap (slice (bit s) from) run ∙ sym (runs_end s c.args.found from c.loop-i.i (search rules))) c.copy_run.ensures in
    laid-within (omega (arith, run, come_most c.loop-i.invariant.1, c.requires.fair.short)) (c.loop-i.invariant.0.ends last-run)
