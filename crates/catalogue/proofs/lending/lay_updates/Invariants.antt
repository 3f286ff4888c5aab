-- whoever lays the updates left from here has laid all from the start
use Rattle.std.proofs.Common.{◌-◌, ◌≤◌}
use Rattle.bits.specs.Language.{from}
use Rattle.oamd.specs.Tables.{most_blocks}
use Rattle.text.specs.Lines.{texts}
use Rattle.text.proofs.LayLaws.{Rest}
use Rattle.catalogue.specs.BackCalls.{update_of}
use Rattle.catalogue.proofs.lending.lay_updates.Given as goal

abbrev pub invariant-loop-blk : goal.invariant-loop-blk
invariant-loop-blk t =
    (t.blk ≤ most_blocks) × Rest t.initial.lines t.lines t.initial.to t.to (texts (update_of t.p) (from 0 most_blocks)) (texts (update_of t.p) (from t.blk (most_blocks - t.blk)))
