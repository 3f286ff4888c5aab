use Rattle.std.proofs.Common.{arith, sym, ◌*◌, ◌∙◌, ◌≤◌}
use Rattle.oamd.specs.Tables.{most_bytes}
use Rattle.demands.specs.Lemmas.Frame.{body_at}
use Rattle.sources.proofs.Entering.{passed_over, entered, not_found, body_near}
use Rattle.sources.proofs.walk.find_element.Goals as goal
use Rattle.sources.proofs.walk.find_element.Goals.{After-read_frame-step}

-- behind its head comes its end
near : (c : After-read_frame-step) → body_at c.loop-i.cur.at.0 c.args.alternate c.read_frame-step.result.value.size ≤ 8 * most_bytes
near c =
    body_near c.loop-i.invariant c.loop-i-test.true c.requires.whole c.read_frame-step.ensures c.requires.short

pub overflow_mul-head : goal.overflow_mul-head
overflow_mul-head c =
    omega (arith, near (goal.at.overflow_mul-head c).After-read_frame-step)

pub overflow_add-head : goal.overflow_add-head
overflow_add-head c =
    omega (arith, near (goal.at.overflow_add-head c).After-read_frame-step)

pub overflow_add-head-then-is_wanted : goal.overflow_add-head-then-is_wanted
overflow_add-head-then-is_wanted c =
    omega (arith, near (goal.at.overflow_add-head-then-is_wanted c).After-read_frame-step, c.head_bits.ensures)

pub overflow_add-raw : goal.overflow_add-raw
overflow_add-raw c =
    omega (arith, near (goal.at.overflow_add-raw c).After-read_frame-step, c.raw.ensures, c.head_bits.ensures)

pub returns-then-is_wanted : goal.returns-then-is_wanted
returns-then-is_wanted c =
    entered c.loop-i.invariant c.loop-i-test.true c.requires.whole c.read_frame-step.ensures c.requires.short
    (sym c.is_wanted.ensures ∙ c.if-is_wanted.true) (omega (arith, c.raw.ensures, c.head_bits.ensures)) c.inside.ensures

pub loop-i-preserved : goal.loop-i-preserved
loop-i-preserved c =
    passed_over c.loop-i.invariant c.loop-i-test.true c.requires.whole c.read_frame-step.ensures (sym c.is_wanted.ensures ∙ c.if-is_wanted.false)

pub returns : goal.returns
returns c =
    not_found c.loop-i.invariant c.loop-i-test.false
