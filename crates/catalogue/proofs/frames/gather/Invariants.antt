-- `gather` meets its contract: whoever lays the rows of the objects left from here has laid all from the start. Assumes nothing.
use Rattle.std.proofs.Common.{List, drop, take, ℕ, ◌*◌, ◌+◌, ◌-◌, ◌≤◌}
use Rattle.bits.specs.Language.{from as numbers}
use Rattle.oamd.specs.Tables.{record_bytes, record_stride}
use Rattle.text.specs.Lines.{texts}
use Rattle.text.proofs.LayLaws.{Rest}
use Rattle.catalogue.specs.Sheets.{block_rows}
use Rattle.catalogue.proofs.frames.gather.Given as goal

-- the row of an object
abbrev pub row : ℕ → List ℕ → ℕ → ℕ → List ℕ
row blocks records blk j = take record_bytes (drop (record_stride * (j * blocks + blk)) records)

abbrev pub invariant-loop-j : goal.invariant-loop-j
invariant-loop-j t =
    (t.j ≤ t.objects)
    × Rest t.initial.rows t.rows t.initial.to t.to (block_rows t.objects t.blocks t.records t.blk) (texts (row t.blocks t.records t.blk) (numbers t.j (t.objects - t.j)))
