-- A catalogue read back: the lines, in the order in which they can stand, applied to the rows of the update before.
use Rattle.std.specs.Prelude.{Bool, true, not, List, [], ◌∷◌, ℕ, zero, suc, ◌-◌, ◌*◌, eqb, length, get_or, set}
use Rattle.bits.specs.Language.{pick, between}
use Rattle.oamd.specs.Tables.{most_objects, most_blocks, record_bytes}
use Rattle.keys.specs.Names.{refusal_key, objects_key, blocks_key, frame_key, start_key, ramp_key, object_key}
use Rattle.text.specs.Lines.{comma}
use Rattle.catalogue.specs.Fields.{field_of, most_frame, most_start, most_ramp}
use Rattle.catalogue.specs.Sheets.{Change, Sheet, refused_sheet, accepted_sheet, rows_bytes, rows_behind, zeros}
use Rattle.catalogue.specs.Text.{is_full}
use Rattle.catalogue.specs.Scan.{Got, S, give, fail, word, peek, number, end_line, whether, at_end, ◌>>=◌, ◌>>◌, run}

-- KEY=NUMBER
abbrev pub value : List ℕ → ℕ → ℕ → S ℕ
value key least most = do
  word key
  number least most

-- go on where a test holds
abbrev pub check : {A : Type 0} → Bool → S A → S A
check holds p = pick holds p fail

-- ---- an entry

-- One field, the byte at a place of the rows: listed, it must have another value than before, but in an update that lists every field; there it must be listed, and elsewhere it may stay as it was
unfoldable pub field_back : Bool → ℕ → ℕ → List ℕ → S (List ℕ)
field_back full k at rows =
    whether (comma ∷ (field_of k).key)
    (number (field_of k).least (field_of k).most >>= λ v. check (pick full true (not (eqb (get_or rows at 0) v))) (give (set rows at v)))
    (check (not full) (give rows))

-- m fields of an object from byte k on, which stands at a place of the rows
unfoldable pub fields_back : Bool → ℕ → ℕ → ℕ → List ℕ → S (List ℕ)
fields_back full k at zero rows = give rows
fields_back full k at (suc m) rows = do
  rows ← field_back full k at rows
  fields_back full (suc k) (suc at) m rows

-- what stands behind `object=` and the number: a field at the least, then the others in record order, and the line's end
unfoldable pub entry_back : Bool → ℕ → List ℕ → S (List ℕ)
entry_back full j rows = do
  peek comma
  rows ← fields_back full 0 (record_bytes * j) record_bytes rows
  end_line
  give rows

-- the object of the entry that comes next; where a line of another kind comes, a number that no object has
abbrev pub no_object : ℕ
no_object = most_objects

abbrev pub next_object : S ℕ
next_object = whether object_key (number 0 (no_object - 1)) (give no_object)

-- ---- an update

-- m objects from j on, the next entry being that of an object: in an update that lists every field each has an entry, and elsewhere it may have none. Behind them no entry may be left
unfoldable pub entries_back : Bool → ℕ → ℕ → ℕ → List ℕ → S (List ℕ)
entries_back full j zero next rows = check (eqb next no_object) (give rows)
entries_back full j (suc m) next rows =
    pick (eqb next j)
    (entry_back full j rows >>= λ now. next_object >>= λ then. entries_back full (suc j) m then now)
    (check (not full) (entries_back full (suc j) m next rows))

-- the rows that the entries of an update are applied to
unfoldable pub rows_here : ℕ → List ℕ → List ℕ
rows_here objects before = pick (is_full objects before) (zeros (rows_bytes objects)) before

unfoldable pub update_back : ℕ → List ℕ → S Change
update_back objects before = do
  start ← value start_key 0 most_start
  word (comma ∷ [])
  ramp ← value ramp_key 0 most_ramp
  end_line
  next ← next_object
  rows ← entries_back (is_full objects before) 0 objects next (rows_here objects before)
  give {A = Change} (record { start = start; ramp = ramp; rows = rows })

-- ---- a frame

unfoldable pub updates_back : ℕ → ℕ → List ℕ → S (List Change)
updates_back objects zero before = give []
updates_back objects (suc m) before = do
  u ← update_back objects before
  us ← updates_back objects m u.rows
  give (u ∷ us)

-- the number of a refusal that a frame can have: 1 to 8, or 12
unfoldable pub refused_back : ℕ → S Sheet
refused_back frame = do
  refusal ← number 1 12
  check (not (between 9 11 refusal)) end_line
  give {A = Sheet} (refused_sheet frame refusal)

unfoldable pub accepted_back : List ℕ → ℕ → S Sheet
accepted_back before frame = do
  objects ← value objects_key 1 most_objects
  word (comma ∷ [])
  blocks ← value blocks_key 0 most_blocks
  end_line
  updates ← updates_back objects blocks before
  give {A = Sheet} (accepted_sheet frame objects updates)

unfoldable pub sheet_back : List ℕ → S Sheet
sheet_back before = do
  frame ← value frame_key 0 most_frame
  word (comma ∷ [])
  whether refusal_key (refused_back frame) (accepted_back before frame)

-- up to m frames, and then the text's end
unfoldable pub sheets_back : ℕ → List ℕ → S (List Sheet)
sheets_back zero before = at_end (give []) fail
sheets_back (suc m) before =
    at_end (give [])
    (sheet_back before >>= λ x. sheets_back m (rows_behind before x.updates) >>= λ xs. give (x ∷ xs))

-- a whole text: it has no more frames than bytes, and its lines are counted from 1
unfoldable pub back : List ℕ → List ℕ → Got (List Sheet)
back before text = run (sheets_back (length text) before) 1 text
