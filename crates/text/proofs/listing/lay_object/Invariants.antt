-- `lay_object` meets its contract: whoever lays the blocks left from here has laid all from the start. Assumes nothing.
use Rattle.std.proofs.Common.{List, ℕ, ◌*◌, ◌+◌, ◌-◌, ◌≤◌}
use Rattle.bits.specs.Language.{from as numbers}
use Rattle.text.specs.Lines.{texts}
use Rattle.text.specs.Listing.{record_line, record_at, object_lines}
use Rattle.text.proofs.LayLaws.{Rest}
use Rattle.text.proofs.listing.lay_object.Given as goal

-- the line of a block
abbrev pub line_of : ℕ → ℕ → List ℕ → ℕ → List ℕ
line_of object blocks records blk = record_line object blk (record_at records (object * blocks + blk))

abbrev pub invariant-loop-blk : goal.invariant-loop-blk
invariant-loop-blk t =
    (t.blk ≤ t.blocks)
    × Rest t.initial.text t.text t.initial.to t.to (object_lines t.blocks t.records t.object) (texts (line_of t.object t.blocks t.records) (numbers t.blk (t.blocks - t.blk)))
