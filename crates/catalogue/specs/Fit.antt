-- The sheets that a catalogue can hold: each number in its range. Reads give no others, and each value occurs.
use Rattle.std.specs.Prelude.{◌≡◌, List, ◌⊎◌, ℕ, ◌≤◌, ◌<◌, length}
use Rattle.bits.specs.Terms.{Every}
use Rattle.oamd.specs.Tables.{most_objects, most_blocks, record_bytes}
use Rattle.catalogue.specs.Fields.{field_of, most_frame, most_start, most_ramp}
use Rattle.catalogue.specs.Sheets.{Change, Sheet, refused_sheet, rows_bytes, cell}

-- the rows of so many objects
pub record FitRows (objects : ℕ) (rows : List ℕ) : Type 0 where
  pub long : length rows ≡ rows_bytes objects
  pub least : (j k : ℕ) → j < objects → k < record_bytes → (field_of k).least ≤ cell rows j k
  pub most : (j k : ℕ) → j < objects → k < record_bytes → cell rows j k ≤ (field_of k).most

pub record FitChange (objects : ℕ) (u : Change) : Type 0 where
  pub start : u.start ≤ most_start
  pub ramp : u.ramp ≤ most_ramp
  pub rows : FitRows objects u.rows

-- a refusal that a frame can have
abbrev pub CanBe : ℕ → Type 0
CanBe refusal = ((1 ≤ refusal) × (refusal ≤ 8)) ⊎ (refusal ≡ 12)

pub data Fit (x : Sheet) : Type 0 where
  refused : x.frame ≤ most_frame → CanBe x.refusal → x ≡ refused_sheet x.frame x.refusal → Fit x
  accepted : x.frame ≤ most_frame → x.refusal ≡ 0 → 1 ≤ x.objects → x.objects ≤ most_objects → length x.updates ≤ most_blocks
      → Every (FitChange x.objects) x.updates → Fit x
