-- What the functions that lay a catalogue ask, and what they promise.
use Rattle.std.specs.Prelude.{◌≡◌, List, [], ◌++◌, map, ℕ, ◌-◌, ◌*◌, ◌≤◌, length}
use Rattle.std.proofs.lemmas.List.Edits.{sets}
use Rattle.bits.specs.Language.{from}
use Rattle.oamd.specs.declared.ReadAnswer.{ReadAnswer}
use Rattle.oamd.specs.declared.Update.{Update}
use Rattle.oamd.specs.Tables.{most_objects, most_blocks, record_stride, room_bytes}
use Rattle.oamd.specs.Record.{onto}
use Rattle.text.specs.Laying.{Laid}
use Rattle.catalogue.specs.declared.Latest.{Latest}
use Rattle.catalogue.specs.Sheets.{Change, Sheet, rows_bytes, rows_after, change_of, sheet_of}
use Rattle.catalogue.specs.Text.{update_line, entry_lines, catalogue}
use Rattle.catalogue.specs.Answer.{rows_in, rows_laid}
use Rattle.catalogue.specs.Parts.{front}

-- an array for the rows of every update
abbrev pub RowsRoom : List ℕ → Type 0
RowsRoom rows = length rows ≡ rows_bytes most_objects

-- the records of so many objects and blocks, in a room for those of every payload
pub record Within (objects blocks : ℕ) (records : List ℕ) : Type 0 where
  pub few : objects ≤ most_objects
  pub turns : blocks ≤ most_blocks
  pub bytes : record_stride * (objects * blocks) ≤ room_bytes
  pub long : length records ≡ room_bytes

-- a text was laid, and the rows of the latest update, in their array, are now these
pub record Stepped (text text' : List ℕ) (at to : ℕ) (latest : Latest) (l rows : List ℕ) : Type 0 where
  pub laid : Laid text text' at to l
  pub rows_are : front latest ≡ rows

-- an update with its rows
abbrev pub change_by : Update → List ℕ → Change
change_by u rows = record { start = u.start.0; ramp = u.ramp.0; rows = rows }

-- the text of an update
abbrev pub update_text : ℕ → List ℕ → Change → List ℕ
update_text objects before u = update_line u.start u.ramp ++ entry_lines objects before u.rows

-- the updates of a frame from block blk on, of records in a room
abbrev pub changes_from : ℕ → ℕ → List ℕ → List Update → ℕ → List Change
changes_from objects blocks records updates blk = map (change_of objects blocks records updates) (from blk (blocks - blk))

-- a frame of which a read answered this, and laid these records
abbrev pub sheet_by : ℕ → ReadAnswer → List ℕ → Sheet
sheet_by frame a records = sheet_of frame (record { answer = a; buffer = records; trim = [] })

-- a length and a frame for each start
pub record Matched (starts lengths frames : List ℕ) : Type 0 where
  pub each-length : length lengths ≡ length starts
  pub each-frame : length frames ≡ length starts

-- the text was laid, and the last update is kept for the next call
pub record Written (text text' before before' : List ℕ) (xs : List Sheet) : Type 0 where
  pub laid : text' ≡ sets text 0 (catalogue (rows_in before) xs)
  pub kept : before' ≡ onto (rows_laid (rows_after (rows_in before) xs)) before
