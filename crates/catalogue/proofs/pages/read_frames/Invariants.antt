-- the frames read so far are laid, and reading what is left of the text gives what reading all gave
use Rattle.std.proofs.Common.{length, ◌≡◌}
use Rattle.oamd.specs.Tables.{scratch_bytes}
use Rattle.catalogue.specs.Parts.{front}
use Rattle.catalogue.proofs.BackFrames.{Reached}
use Rattle.catalogue.proofs.pages.read_frames.Given as goal

abbrev pub invariant-loop-r : goal.invariant-loop-r
invariant-loop-r l =
    Reached l.text (front l.fn.rows) l.r (front l.rows) l.fn.lines l.lines l.fn.records l.records l.t × (length l.store ≡ scratch_bytes)

abbrev pub decreases-loop-r : goal.decreases-loop-r
decreases-loop-r l = length l.r.rest.now
