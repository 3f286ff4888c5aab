use Rattle.std.proofs.Common.{◌-◌}
use Rattle.bits.specs.Language.{bit}
use Rattle.bits.proofs.SizeSteps.{rest, Behind}
use Rattle.bits.proofs.sizes.read_size.Given as goal

-- `bits::groups::read_size` meets its contract: behind each flag, what is left to read gives what the whole gives. Assumes nothing.
abbrev pub invariant-loop-b_read_more : goal.invariant-loop-b_read_more
invariant-loop-b_read_more t =
    Behind (rest t.initial.b_read_more.v t.initial.value t.initial.groups) (bit t.s) t.initial.b_read_more t.l t.value t.num_group t.groups t.b_read_more

abbrev pub decreases-loop-b_read_more : goal.decreases-loop-b_read_more
decreases-loop-b_read_more t =
    5 - t.groups
