-- `has_changes` meets its contract: before byte k, whether a field is listed goes by those from k on. Assumes nothing.
use Rattle.std.proofs.Common.{◌≡◌, ◌≤◌}
use Rattle.oamd.specs.Tables.{record_bytes}
use Rattle.catalogue.specs.Text.{changes, is_there}
use Rattle.catalogue.proofs.WriteLines.{listed_from}
use Rattle.catalogue.proofs.entries.has_changes.Given as goal

abbrev pub invariant-loop-k : goal.invariant-loop-k
invariant-loop-k t =
    (t.k ≤ record_bytes) × (is_there (listed_from t.full t.before t.rows t.j t.k) ≡ is_there (changes t.full t.before t.rows t.j))
