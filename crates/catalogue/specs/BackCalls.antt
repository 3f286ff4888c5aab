-- What the functions that read a catalogue back ask, and what they promise.
use Rattle.std.specs.Prelude.{◌≡◌, Bool, not, List, [], ◌∷◌, ◌++◌, map, ℕ, ◌+◌, ◌*◌, ◌≤◌, ltb, length, get_or, take, drop, replicate, Result, IfOk}
use Rattle.std.proofs.lemmas.List.Edits.{sets}
use Rattle.bits.specs.Language.{pick, between, from}
use Rattle.oamd.specs.declared.Timing.{Timing}
use Rattle.oamd.specs.declared.Update.{Update}
use Rattle.oamd.specs.Tables.{most_objects, most_blocks, record_bytes, frame_samples}
use Rattle.oamd.specs.LeastFirst.{least_first}
use Rattle.oamd.specs.Record.{onto}
use Rattle.oamd.specs.Time.{time_bytes_of}
use Rattle.oamd.specs.Timing.{no_update}
use Rattle.text.specs.Lines.{texts, texts_for}
use Rattle.text.specs.Laying.{capped, Laid}
use Rattle.catalogue.specs.declared.BadLine.{BadLine}
use Rattle.catalogue.specs.declared.Latest.{Latest}
use Rattle.catalogue.specs.declared.Objects.{Objects}
use Rattle.catalogue.specs.declared.Page.{Page}
use Rattle.catalogue.specs.declared.Reader.{Reader}
use Rattle.catalogue.specs.declared.Tally.{Tally}
use Rattle.catalogue.specs.Sheets.{Change, Sheet, rows_bytes, rows_behind, rows_after}
use Rattle.catalogue.specs.Text.{is_full}
use Rattle.catalogue.specs.Scan.{got, S, give, number, end_line, ◌>>=◌, ◌>>◌}
use Rattle.catalogue.specs.Back.{check, rows_here, updates_back, back}
use Rattle.catalogue.specs.Answer.{rows_in, rows_laid, line_bytes, records_bytes}
use Rattle.catalogue.specs.Parts.{front, came, runs}
use Rattle.catalogue.specs.Writes.{change_by}

-- ---- a frame as it was read back

-- its sheet: the rows of its updates stand in an array, one behind the other

abbrev pub change_in : ℕ → List Update → List ℕ → ℕ → Change
change_in objects updates store blk = change_by (get_or updates blk no_update) (take (rows_bytes objects) (drop (rows_bytes objects * blk) store))

abbrev pub changes_in : ℕ → ℕ → List Update → List ℕ → List Change
changes_in objects blocks updates store = map (change_in objects updates store) (from 0 blocks)

abbrev pub sheet_in : Page → List ℕ → Sheet
sheet_in p store =
    record { frame = p.frame; refusal = p.refusal; objects = p.objects; updates = changes_in p.objects p.timing.blocks p.timing.updates store }

-- ---- its line in the lent buffer

-- update blk of as many as there are blocks
abbrev pub update_in : Timing → ℕ → Update
update_in t blk = pick (ltb blk t.blocks) (get_or t.updates blk no_update) no_update

abbrev pub update_of : Page → ℕ → List ℕ
update_of p blk = least_first 2 (update_in p.timing blk).start.0 ++ least_first 2 (update_in p.timing blk).ramp.0

unfoldable pub line_of : Page → List ℕ
line_of p = least_first 4 p.frame ++ ((p.refusal ∷ p.objects ∷ p.timing.blocks ∷ 0 ∷ []) ++ texts_for most_blocks (update_of p))

-- ---- its records there, with their times

abbrev pub record_in : Page → List ℕ → ℕ → ℕ → List ℕ
record_in p store j blk =
    take record_bytes (drop (rows_bytes p.objects * blk + record_bytes * j) store)
    ++ time_bytes_of (p.frame * frame_samples + (get_or p.timing.updates blk no_update).start.0)

unfoldable pub object_of : Page → List ℕ → ℕ → List ℕ
object_of p store j = texts_for p.timing.blocks (record_in p store j)

unfoldable pub records_of : Page → List ℕ → List ℕ
records_of p store = texts_for p.objects (object_of p store)

-- ---- what reading it promises

-- the rows that an update of so many objects is applied to, and whether it lists every field
pub record RowsTaken (objects : Objects) (before rows : Latest) (full : Bool) : Type 0 where
  pub fills : full ≡ is_full objects.n (front before)
  pub here : front rows ≡ rows_here objects.n (front before)
  pub count : rows.count.n ≡ objects.n

-- the updates of a frame: their rows one behind the other, and those of the last in front of the array
pub record UpdatesRead (objects blocks : ℕ) (r r' : Reader) (before rows : Latest) (store : List ℕ) (t : Result Timing BadLine) : Type 0 where
  pub changes : came (λ t. changes_in objects blocks t.updates store) t r' ≡ runs r (updates_back objects blocks (front before))
  pub last : IfOk t (λ t. front rows ≡ rows_behind (front before) (changes_in objects blocks t.updates store))
  pub many : IfOk t (λ t. t.blocks ≡ blocks)

-- a frame
pub record PageRead (sheet : S Sheet) (r r' : Reader) (before rows : Latest) (store : List ℕ) (p : Result Page BadLine) : Type 0 where
  pub read : came (λ p. sheet_in p store) p r' ≡ runs r sheet
  pub last : IfOk p (λ p. front rows ≡ rows_behind (front before) (sheet_in p store).updates)
  pub objects : IfOk p (λ p. p.objects ≤ most_objects)
  pub blocks : IfOk p (λ p. p.timing.blocks ≤ most_blocks)

-- a frame that is refused: the number of its refusal, and what is made of it
abbrev pub refusal_back : S ℕ
refusal_back = do
  refusal ← number 1 12
  check (not (between 9 11 refusal)) end_line
  give refusal

abbrev pub refused_page : ℕ → ℕ → Page
refused_page frame refusal =
    record { frame = frame; refusal = refusal; objects = 0; timing = record { blocks = 0; updates = replicate most_blocks no_update } }

-- ---- all frames of a text

-- the frames that it has, laid into the lent buffers, and the update before behind them
pub record Laying (text before behind lines lines' records records' : List ℕ) (t : Tally) : Type 0 where
  pub sheets : List Sheet
  pub line : ℕ
  pub read : back before text ≡ got sheets line []
  pub each : Laid lines lines' 0 t.lines (texts line_bytes sheets)
  pub all : Laid records records' 0 t.records (texts records_bytes sheets)
  pub many : t.frames ≡ length sheets
  pub last : behind ≡ rows_after before sheets

-- ---- the calls

-- what a text gives and needs, without a buffer for it
pub record Readable (text before : List ℕ) (t : Tally) : Type 0 where
  pub sheets : List Sheet
  pub line : ℕ
  pub read : back (rows_in before) text ≡ got sheets line []
  pub each : t.lines ≡ capped (length (texts line_bytes sheets))
  pub all : t.records ≡ capped (length (texts records_bytes sheets))
  pub many : t.frames ≡ length sheets

-- the buffers behind a text that gives these frames
pub record Lent (text before before' lines lines' records records' : List ℕ) : Type 0 where
  pub front : (xs : List Sheet) (n : ℕ) → back (rows_in before) text ≡ got xs n [] → before' ≡ onto (rows_laid (rows_after (rows_in before) xs)) before
  pub each : (xs : List Sheet) (n : ℕ) → back (rows_in before) text ≡ got xs n [] → lines' ≡ sets lines 0 (texts line_bytes xs)
  pub all : (xs : List Sheet) (n : ℕ) → back (rows_in before) text ≡ got xs n [] → records' ≡ sets records 0 (texts records_bytes xs)
