use Rattle.sources.proofs.Chaining.{Chaining, steps_left}
use Rattle.sources.proofs.answer.explain.Given as goal

abbrev pub invariant-loop-next : goal.invariant-loop-next
invariant-loop-next t =
    Chaining t.known.payload.now t.object t.block t.byte t.steps t.count t.next

abbrev pub decreases-loop-next : goal.decreases-loop-next
decreases-loop-next t =
    steps_left t.next
