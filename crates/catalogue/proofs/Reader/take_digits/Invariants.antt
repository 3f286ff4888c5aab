-- what is left of the digits, behind those that were read, gives what all of them give
use Rattle.std.proofs.Common.{length, ◌≡◌, ◌≤◌}
use Rattle.catalogue.specs.Scan.{digits}
use Rattle.catalogue.proofs.Reader.take_digits.Given as goal

abbrev pub invariant-loop-b : goal.invariant-loop-b
invariant-loop-b l =
    (l.value ≤ l.most) × (l.self.line ≡ l.fn.self.line) × (digits l.most l.value l.self.rest.now ≡ digits l.most 0 l.fn.self.rest.now)

abbrev pub decreases-loop-b : goal.decreases-loop-b
decreases-loop-b l = length l.self.rest.now
