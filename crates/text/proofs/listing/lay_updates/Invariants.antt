-- `lay_updates` meets its contract: whoever lays the blocks left from here has laid all from the start. Assumes nothing.
use Rattle.std.proofs.Common.{get_or, ◌-◌, ◌≤◌}
use Rattle.bits.specs.Language.{from}
use Rattle.oamd.specs.Timing.{no_update}
use Rattle.text.specs.Lines.{texts}
use Rattle.text.specs.Listing.{block_line}
use Rattle.text.proofs.LayLaws.{Rest}
use Rattle.text.proofs.listing.lay_updates.Given as goal

abbrev pub invariant-loop-blk : goal.invariant-loop-blk
invariant-loop-blk t =
    (t.blk ≤ t.fn.t.blocks)
    × Rest t.initial.text t.text t.initial.to t.to (texts (λ i. block_line i (get_or t.fn.t.updates i no_update)) (from 0 t.fn.t.blocks))
    (texts (λ i. block_line i (get_or t.fn.t.updates i no_update)) (from t.blk (t.fn.t.blocks - t.blk)))
