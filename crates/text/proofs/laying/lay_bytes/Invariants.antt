-- `lay_bytes` meets its contract: whoever lays the bytes left from here has laid all from the start. Assumes nothing.
use Rattle.std.proofs.Common.{[], drop, length, ◌∷◌, ◌≤◌}
use Rattle.text.specs.Lines.{texts}
use Rattle.text.proofs.LayLaws.{Rest}
use Rattle.text.proofs.laying.lay_bytes.Given as goal

abbrev pub invariant-loop-b : goal.invariant-loop-b
invariant-loop-b t =
    (t.b-index ≤ length t.bytes) × Rest t.initial.text t.text t.initial.to t.to t.bytes (texts (λ b. b ∷ []) (drop t.b-index t.bytes))
