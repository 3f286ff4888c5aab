use Rattle.std.proofs.Common.{◌-◌, ◌≤◌, length}
use Rattle.printing.proofs.read_full.Given as goal

-- what has been read stands within the buffer
abbrev pub invariant-loop-done : goal.invariant-loop-done
invariant-loop-done g t = t.done ≤ length t.buffer

abbrev pub decreases-loop-done : goal.decreases-loop-done
decreases-loop-done g t = length t.buffer - t.done
