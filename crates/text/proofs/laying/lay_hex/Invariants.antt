-- `lay_hex` meets its contract: whoever lays the bytes left from here has laid all from the start. Assumes nothing.
use Rattle.std.proofs.Common.{drop, length, ◌≤◌}
use Rattle.text.specs.Numerals.{hex_byte}
use Rattle.text.specs.Lines.{texts}
use Rattle.text.proofs.LayLaws.{Rest}
use Rattle.text.proofs.laying.lay_hex.Given as goal

abbrev pub invariant-loop-b : goal.invariant-loop-b
invariant-loop-b t =
    (t.b-index ≤ length t.bytes) × Rest t.initial.text t.text t.initial.to t.to (texts hex_byte t.bytes) (texts hex_byte (drop t.b-index t.bytes))
