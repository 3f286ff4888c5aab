-- `count_column` meets its contract: before record i, what is left of the column counted on is the whole of it counted from the start. Assumes nothing.
use Rattle.std.proofs.Common.{List, get_or, length, map, ℕ, ◌*◌, ◌+◌, ◌-◌, ◌≡◌, ◌≤◌}
use Rattle.bits.specs.Language.{from}
use Rattle.oamd.specs.Tables.{record_stride}
use Rattle.summary.specs.Summary.{bytes_of_records}
use Rattle.summary.specs.Counting.{Low, all_bumped}
use Rattle.summary.proofs.columns.count_column.Given as goal

-- byte k of the records from i on
abbrev pub left : List ℕ → ℕ → ℕ → ℕ → List ℕ
left room k n i = map (λ j. get_or room (record_stride * j + k) 0) (from i (n - i))

pub record Left (room : List ℕ) (n k : ℕ) (counts₀ counts : List ℕ) (i : ℕ) : Type 0 where
  pub within : i ≤ n
  pub low : Low (n - i) counts
  pub kept : length counts ≡ length counts₀
  pub all : all_bumped (left room k n i) counts ≡ all_bumped (bytes_of_records k n room) counts₀

abbrev pub invariant-loop-i : goal.invariant-loop-i
invariant-loop-i t =
    Left t.room t.n t.k t.initial.counts t.counts t.i
