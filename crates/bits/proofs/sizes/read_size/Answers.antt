use Rattle.std.proofs.Common.{arith, refl, ◌+◌, ◌≤◌}
use Rattle.bits.specs.Language.{bit}
use Rattle.bits.specs.Size.{variable_bits_max}
use Rattle.bits.proofs.SizeSteps.{Behind, first, value_le, turns, breaks, ends, answers}
use Rattle.bits.proofs.sizes.read_size.Goals as goal
use Rattle.bits.proofs.sizes.read_size.Goals.{After-take-read-in-loop-b_read_more, Joined-b_read_more-ne0, else-b_read_more-ne0, then-b_read_more-ne0}

-- behind the first group and its flag
begins : (c : Joined-b_read_more-ne0)
    → Behind variable_bits_max (bit c.args.s.now)
    c.args.c c.args.l
    c.if-b_read_more-ne0.value 1 1 c.take-b_read_more.result
begins c =
    let r = c.take-read.ensures in
    first r c.take-b_read_more.ensures
    (elim c.if-b_read_more-ne0.branch [ then-b_read_more-ne0 w ↦ record { stays = λ z. absurd (w.if-b_read_more-ne0.true z); up = λ z. omega (arith, w.value-is, r.small) } | else-b_read_more-ne0 w ↦ record { stays = λ z. w.value-is; up = λ z. absurd (z w.if-b_read_more-ne0.false) } ])

sum-le : (c : After-take-read-in-loop-b_read_more) → c.loop-b_read_more.value + c.take-read-in-loop-b_read_more.result.v ≤ 1118479
sum-le c = omega (arith, value_le c.loop-b_read_more.invariant c.if-b_read_more-eq0.false, c.take-read-in-loop-b_read_more.ensures.small)

pub overflow_add-value-in-loop-b_read_more : goal.overflow_add-value-in-loop-b_read_more
overflow_add-value-in-loop-b_read_more c =
    omega (arith, sum-le (goal.at.overflow_add-value-in-loop-b_read_more c).After-take-read-in-loop-b_read_more)

pub overflow_add-value-then-b_read_more-ne0-2 : goal.overflow_add-value-then-b_read_more-ne0-2
overflow_add-value-then-b_read_more-ne0-2 c =
    omega (arith, sum-le (goal.at.overflow_add-value-then-b_read_more-ne0-2 c).After-take-read-in-loop-b_read_more)

pub loop-b_read_more-preserved-then-b_read_more-ne0-2 : goal.loop-b_read_more-preserved-then-b_read_more-ne0-2
loop-b_read_more-preserved-then-b_read_more-ne0-2 c =
    turns c.loop-b_read_more.invariant c.if-b_read_more-eq0.false c.take-read-in-loop-b_read_more.ensures c.take-b_read_more-in-loop-b_read_more.ensures (omega (arith, c.if-num_group-ge-MAX_NUM_GROUPS.false))
    (record { stays = λ z. absurd (c.if-b_read_more-ne0-2.true z); up = λ z. omega (arith, sum-le (goal.at.loop-b_read_more-preserved-then-b_read_more-ne0-2 c).After-take-read-in-loop-b_read_more) })
    (λ z. refl)

pub loop-b_read_more-preserved : goal.loop-b_read_more-preserved
loop-b_read_more-preserved c =
    turns c.loop-b_read_more.invariant c.if-b_read_more-eq0.false c.take-read-in-loop-b_read_more.ensures c.take-b_read_more-in-loop-b_read_more.ensures (omega (arith, c.if-num_group-ge-MAX_NUM_GROUPS.false))
    (record { stays = λ z. refl; up = λ z. absurd (z c.if-b_read_more-ne0-2.false) })
    (λ z. absurd (z c.if-b_read_more-ne0-2.false))

pub returns-then-b_read_more-eq0 : goal.returns-then-b_read_more-eq0
returns-then-b_read_more-eq0 c =
    answers (begins (goal.at.returns-then-b_read_more-eq0 c).Joined-b_read_more-ne0).left (ends c.loop-b_read_more.invariant c.if-b_read_more-eq0.true) c.returned.ensures

pub returns-then-num_group-ge-MAX_NUM_GROUPS : goal.returns-then-num_group-ge-MAX_NUM_GROUPS
returns-then-num_group-ge-MAX_NUM_GROUPS c =
    answers (begins (goal.at.returns-then-num_group-ge-MAX_NUM_GROUPS c).Joined-b_read_more-ne0).left
    (breaks c.loop-b_read_more.invariant c.if-b_read_more-eq0.false c.take-read-in-loop-b_read_more.ensures c.take-b_read_more-in-loop-b_read_more.ensures (omega (arith, c.if-num_group-ge-MAX_NUM_GROUPS.true)))
    c.returned-then-num_group-ge-MAX_NUM_GROUPS.ensures
