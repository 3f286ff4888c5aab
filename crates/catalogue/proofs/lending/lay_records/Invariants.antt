-- `lay_records` meets its contract: whoever lays the objects left from here has laid all from the start. Assumes nothing.
use Rattle.std.proofs.Common.{◌-◌, ◌≤◌}
use Rattle.bits.specs.Language.{from}
use Rattle.text.specs.Lines.{texts}
use Rattle.text.proofs.LayLaws.{Rest}
use Rattle.catalogue.specs.BackCalls.{object_of, records_of}
use Rattle.catalogue.proofs.lending.lay_records.Given as goal

abbrev pub invariant-loop-j : goal.invariant-loop-j
invariant-loop-j t =
    (t.j ≤ t.p.objects) × Rest t.initial.records t.records t.initial.to t.to (records_of t.p t.store) (texts (object_of t.p t.store) (from t.j (t.p.objects - t.j)))
