-- `lay_updates` meets its contract: whoever lays the updates left from here has laid all from the start. Assumes nothing.
use Rattle.std.proofs.Common.{◌≤◌}
use Rattle.catalogue.specs.Parts.{front}
use Rattle.catalogue.proofs.WriteFrames.{Updating}
use Rattle.catalogue.proofs.frames.lay_updates.Given as goal

abbrev pub invariant-loop-blk : goal.invariant-loop-blk
invariant-loop-blk t =
    (t.blk ≤ t.blocks) × Updating t.objects.n t.blocks t.records t.t.updates (front t.fn.latest) t.fn.text t.text t.fn.at t.to t.latest t.blk
