-- `lay_entries` meets its contract: whoever lays the entries left from here has laid all from the start. Assumes nothing.
use Rattle.std.proofs.Common.{◌-◌, ◌≤◌}
use Rattle.bits.specs.Language.{from}
use Rattle.text.specs.Lines.{texts, texts_for}
use Rattle.text.proofs.LayLaws.{Rest}
use Rattle.catalogue.specs.Text.{entry_line}
use Rattle.catalogue.proofs.entries.lay_entries.Given as goal

abbrev pub invariant-loop-j : goal.invariant-loop-j
invariant-loop-j t =
    (t.j ≤ t.objects) × Rest t.initial.text t.text t.initial.to t.to (texts_for t.objects (entry_line t.full t.before t.rows)) (texts (entry_line t.full t.before t.rows) (from t.j (t.objects - t.j)))
