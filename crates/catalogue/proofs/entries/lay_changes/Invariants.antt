-- `lay_changes` meets its contract: whoever lays the fields left from here has laid all from the start. Assumes nothing.
use Rattle.std.proofs.Common.{◌≤◌}
use Rattle.oamd.specs.Tables.{record_bytes}
use Rattle.text.proofs.LayLaws.{Rest}
use Rattle.catalogue.specs.Text.{changes}
use Rattle.catalogue.proofs.WriteLines.{listed_from}
use Rattle.catalogue.proofs.entries.lay_changes.Given as goal

abbrev pub invariant-loop-k : goal.invariant-loop-k
invariant-loop-k t =
    (t.k ≤ record_bytes) × Rest t.initial.text t.text t.initial.to t.to (changes t.full t.before t.rows t.j) (listed_from t.full t.before t.rows t.j t.k)
