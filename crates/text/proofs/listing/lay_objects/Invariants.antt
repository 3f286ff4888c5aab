-- `lay_objects` meets its contract: whoever lays the objects left from here has laid all from the start. Assumes nothing.
use Rattle.std.proofs.Common.{◌-◌, ◌≤◌}
use Rattle.bits.specs.Language.{from}
use Rattle.text.specs.Lines.{texts}
use Rattle.text.specs.Listing.{object_lines, record_lines}
use Rattle.text.proofs.LayLaws.{Rest}
use Rattle.text.proofs.listing.lay_objects.Given as goal

abbrev pub invariant-loop-object : goal.invariant-loop-object
invariant-loop-object t =
    (t.object ≤ t.objects)
    × Rest t.initial.text t.text t.initial.to t.to (record_lines t.objects t.blocks t.records)
    (texts (object_lines t.blocks t.records) (from t.object (t.objects - t.object)))
