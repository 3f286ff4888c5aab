-- `copy_run` meets its contract: whoever copies the bits left from here has copied all from the start. Assumes nothing.
use Rattle.std.proofs.Common.{◌+◌, ◌-◌, ◌≡◌, ◌≤◌}
use Rattle.bits.specs.Language.{slice, bit}
use Rattle.laying.proofs.Laws.{Rest}
use Rattle.salvaging.proofs.copying.copy_run.Given as goal

abbrev pub invariant-loop-rest : goal.invariant-loop-rest
invariant-loop-rest t =
    Rest (t.initial.rest - t.rest) t.initial.out t.out t.initial.next t.next (slice (bit t.s) t.initial.source.0 t.initial.rest) (slice (bit t.s) t.source.0 t.rest)
    × (t.source.0 + t.rest ≡ t.initial.source.0 + t.initial.rest) × (t.rest ≤ t.initial.rest)

abbrev pub decreases-loop-rest : goal.decreases-loop-rest
decreases-loop-rest t =
    t.rest
