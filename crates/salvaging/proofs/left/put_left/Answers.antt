-- `put_left` meets its contract: the header, the count and the runs, laid one behind the other (`Whole.antt`). Assumes nothing.
use Rattle.std.proofs.Common.{ap, arith, ◌≡◌, ◌∙◌}
use Rattle.laying.specs.Laying.{reach}
use Rattle.laying.proofs.Laws.{reach-blank}
use Rattle.salvaging.proofs.Whole.{head_most, left_laid}
use Rattle.salvaging.proofs.left.put_left.Goals as goal
use Rattle.salvaging.proofs.left.put_left.Goals.{After-since}

-- the header's bits
wide : (c : After-since) → c.since.result.0 ≡ c.args.found.head.0
wide c = omega (arith, c.since.ensures, c.new-first.ensures)

-- they are laid from the first bit on
first : (c : After-since) → reach c.args.out.now c.start-start.result ≡ 0
first c = ap (reach c.args.out.now) c.start-start.ensures ∙ reach-blank c.args.out.now

pub copy_run-next-requires : goal.copy_run-next-requires
copy_run-next-requires c =
    let since = (goal.at.copy_run-next-requires c).After-since in
    let most = head_most c.requires in
    let w = wide since in
    (omega arith, omega (arith, first since))

pub put_count-next-requires-clause-most_count_bound : goal.put_count-next-requires-clause-most_count_bound
put_count-next-requires-clause-most_count_bound c =
    let since = (goal.at.put_count-next-requires-clause-most_count_bound c).After-since in
    omega (arith, c.copy_run-next.ensures.most, wide since, first since, head_most c.requires)

pub put_runs-requires-clause-most_bits_bound : goal.put_runs-requires-clause-most_bits_bound
put_runs-requires-clause-most_bits_bound c =
    let since = (goal.at.put_runs-requires-clause-most_bits_bound c).After-since in
    omega (arith, c.put_count-next.ensures.most, c.copy_run-next.ensures.most, wide since, first since, head_most c.requires)

pub returns : goal.returns
returns c =
    left_laid c.requires c.start-start.ensures c.new-first.ensures (wide (goal.at.returns c).After-since) c.kept.ensures c.copy_run-next.ensures c.put_count-next.ensures
    c.put_runs.ensures
