-- `lay_object` meets its contract: whoever lays the blocks left from here has laid all from the start. Assumes nothing.
use Rattle.std.proofs.Common.{◌-◌, ◌≤◌}
use Rattle.bits.specs.Language.{from}
use Rattle.text.specs.Lines.{texts}
use Rattle.text.proofs.LayLaws.{Rest}
use Rattle.catalogue.specs.BackCalls.{record_in, object_of}
use Rattle.catalogue.proofs.lending.lay_object.Given as goal

abbrev pub invariant-loop-blk : goal.invariant-loop-blk
invariant-loop-blk t =
    (t.blk ≤ t.p.timing.blocks)
    × Rest t.initial.records t.records t.initial.to t.to (object_of t.p t.store t.j) (texts (record_in t.p t.store t.j) (from t.blk (t.p.timing.blocks - t.blk)))
