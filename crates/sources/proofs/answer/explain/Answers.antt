use Rattle.std.proofs.Common.{Some, ap, arith, get_or, ℕ, ◌*◌, ◌+◌, ◌∙◌, ◌<◌}
use Rattle.oamd.specs.Tables.{record_stride}
use Rattle.sources.specs.Asked.{Asked}
use Rattle.sources.proofs.Chaining.{Chaining, asked_back, value_is, chaining_start, chaining_step, chaining-stop}
use Rattle.sources.proofs.answer.explain.Goals as goal
use Rattle.sources.proofs.answer.explain.Goals.{In-Some}

-- what the loop knows where the chain goes on
going : (c : In-Some) → Chaining c.args.known.payload.now c.args.object c.args.block c.args.byte c.loop-next.steps c.loop-next.count (Some c.in-Some.link)
going c = rw c.in-Some.is at c.loop-next.invariant

-- the object and the block that the chain has come to are there
here : (c : In-Some) → Asked c.args.known.payload.now c.args.known.blocks c.in-Some.link.object c.in-Some.link.block
here c = asked_back c.requires.0 (going c).within.0 (going c).within.1

-- there is room for its step
room : (c : In-Some) → c.loop-next.count < 166
room c = omega (arith, (going c).fuel, c.requires.0.object, c.requires.0.objects, c.requires.0.block, c.requires.0.few)

pub loop-next-init : goal.loop-next-init
loop-next-init c =
    chaining_start _ _ _ _ _ (omega arith)

pub loop-next-preserved : goal.loop-next-preserved
loop-next-preserved c =
    let at = (goal.at.loop-next-preserved c).In-Some in
    chaining_step (going at) (here at).blocks (room at) c.told_at-told.ensures
    (ap (λ (i : ℕ). get_or c.args.known.records.now (record_stride * i + c.args.byte) 0) c.index_of.ensures ∙ value_is (here at) c.requires.1 c.requires.2)
    c.step_of.ensures c.behind-next.ensures

pub returns : goal.returns
returns c =
    chaining-stop (rw c.in_default.is at c.loop-next.invariant)
