-- What a catalogue holds: a sheet for each frame, with its refusal, or its objects and its updates; each update with the rows of its objects, one for each record, time
-- bytes aside.
use Rattle.std.specs.Prelude.{List, [], ◌∷◌, map, ℕ, ◌+◌, ◌*◌, get_or, take, drop, replicate}
use Rattle.bits.specs.Language.{from}
use Rattle.oamd.specs.declared.Update.{Update}
use Rattle.oamd.specs.Tables.{record_bytes, record_stride, room_bytes, most_trim}
use Rattle.oamd.specs.Timing.{no_update}
use Rattle.oamd.specs.Answer.{Outcome}
use Rattle.oamd.specs.Batch.{entry}
use Rattle.text.specs.Lines.{texts_for}

-- An update: start and ramp, in samples, and the rows of all objects, 24 bytes each
pub record Change : Type 0 where
  pub start : ℕ
  pub ramp : ℕ
  pub rows : List ℕ

-- A frame: of one that is refused there are no objects and no updates
pub record Sheet : Type 0 where
  pub frame : ℕ
  pub refusal : ℕ
  pub objects : ℕ
  pub updates : List Change

abbrev pub refused_sheet : ℕ → ℕ → Sheet
refused_sheet frame refusal = record { frame = frame; refusal = refusal; objects = 0; updates = [] }

abbrev pub accepted_sheet : ℕ → ℕ → List Change → Sheet
accepted_sheet frame objects updates = record { frame = frame; refusal = 0; objects = objects; updates = updates }

-- the bytes that the rows of so many objects take
abbrev pub rows_bytes : ℕ → ℕ
rows_bytes objects = record_bytes * objects

-- byte k of object j
abbrev pub cell : List ℕ → ℕ → ℕ → ℕ
cell rows j k = get_or rows (record_bytes * j + k) 0

-- the row of object j
abbrev pub row_of : List ℕ → ℕ → List ℕ
row_of rows j = take record_bytes (drop (record_bytes * j) rows)

-- ---- the update before

-- the rows that the next update is held against, behind the updates of a frame: those of the last, or, without any, those before
unfoldable pub rows_behind : List ℕ → List Change → List ℕ
rows_behind before [] = before
rows_behind before (u ∷ us) = rows_behind u.rows us

-- behind frames: refused ones, and those without updates, are passed over
unfoldable pub rows_after : List ℕ → List Sheet → List ℕ
rows_after before [] = before
rows_after before (x ∷ xs) = rows_after (rows_behind before x.updates) xs

-- ---- the sheets of entries, given as to a batch

unfoldable pub zeros : ℕ → List ℕ
zeros n = replicate n 0

-- block blk of records as they stand in a lent buffer: objects outermost, blocks within
abbrev pub block_rows : ℕ → ℕ → List ℕ → ℕ → List ℕ
block_rows objects blocks records blk = texts_for objects (λ j. take record_bytes (drop (record_stride * (j * blocks + blk)) records))

abbrev pub change_of : ℕ → ℕ → List ℕ → List Update → ℕ → Change
change_of objects blocks records updates blk =
    let u = get_or updates blk no_update in
    record { start = u.start.0; ramp = u.ramp.0; rows = block_rows objects blocks records blk }

-- of what a read answered, with the frame's number
unfoldable pub sheet_of : ℕ → Outcome → Sheet
sheet_of frame o =
    let objects = o.answer.programme.objects in
    let blocks = o.answer.timing.blocks in
    record {
      frame = frame;
      refusal = o.answer.refusal;
      objects = objects;
      updates = map (change_of objects blocks o.buffer o.answer.timing.updates) (from 0 blocks);
    }

-- an entry by itself, read with room for the records and the trim table of every payload
abbrev pub sheet_at : List ℕ → ℕ → ℕ → ℕ → Sheet
sheet_at store start len frame = sheet_of frame (entry frame store start len (zeros room_bytes) (zeros most_trim))

-- and each of them, in list order
unfoldable pub sheets_of : List ℕ → List ℕ → List ℕ → List ℕ → List Sheet
sheets_of store [] lengths frames = []
sheets_of store (start ∷ starts) [] frames = []
sheets_of store (start ∷ starts) (len ∷ lengths) [] = []
sheets_of store (start ∷ starts) (len ∷ lengths) (frame ∷ frames) = sheet_at store start len frame ∷ sheets_of store starts lengths frames
