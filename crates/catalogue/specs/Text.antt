-- The text of a catalogue: lines of pairs KEY=NUMBER parted by commas.
use Rattle.std.specs.Prelude.{Bool, true, false, not, List, [], ◌∷◌, ◌++◌, ℕ, eqb, length}
use Rattle.bits.specs.Language.{pick}
use Rattle.bits.specs.Writes.{only}
use Rattle.oamd.specs.Tables.{record_bytes}
use Rattle.keys.specs.Names.{refusal_key, objects_key, blocks_key, frame_key, start_key, ramp_key, object_key}
use Rattle.text.specs.Numerals.{decimal}
use Rattle.text.specs.Lines.{texts_for, comma, newline, parted}
use Rattle.catalogue.specs.Fields.{field_of}
use Rattle.catalogue.specs.Sheets.{Change, Sheet, rows_bytes, cell, rows_behind}

abbrev pub pair : List ℕ → ℕ → List ℕ
pair key n = key ++ decimal n

abbrev pub pairs_line : List (List ℕ) → List ℕ
pairs_line pairs = parted pairs ++ (newline ∷ [])

-- ---- a line of each kind

-- a frame that is refused
unfoldable pub refused_line : ℕ → ℕ → List ℕ
refused_line frame refusal = pairs_line (pair frame_key frame ∷ pair refusal_key refusal ∷ [])

-- a frame that is accepted
unfoldable pub frame_line : ℕ → ℕ → ℕ → List ℕ
frame_line frame objects blocks = pairs_line (pair frame_key frame ∷ pair objects_key objects ∷ pair blocks_key blocks ∷ [])

-- an update of it
unfoldable pub update_line : ℕ → ℕ → List ℕ
update_line start ramp = pairs_line (pair start_key start ∷ pair ramp_key ramp ∷ [])

-- byte k of an object's row, if it is listed: in an update that lists every field, or where it is another than before
abbrev pub listed : Bool → ℕ → ℕ → ℕ → List ℕ
listed full before now k = only (pick full true (not (eqb before now))) (comma ∷ pair (field_of k).key now)

-- all that are listed of object j, in record order
unfoldable pub changes : Bool → List ℕ → List ℕ → ℕ → List ℕ
changes full before now j = texts_for record_bytes (λ k. listed full (cell before j k) (cell now j k) k)

-- whether there is anything
abbrev pub is_there : List ℕ → Bool
is_there [] = false
is_there (c ∷ cs) = true

-- the entry of object j; without a field to list there is none
unfoldable pub entry_line : Bool → List ℕ → List ℕ → ℕ → List ℕ
entry_line full before now j =
    let fields = changes full before now j in
    only (is_there fields) (pair object_key j ++ (fields ++ (newline ∷ [])))

-- ---- updates and frames

-- an update lists every field where the update before has another number of objects, or there is none
abbrev pub is_full : ℕ → List ℕ → Bool
is_full objects before = not (eqb (length before) (rows_bytes objects))

-- the entries of an update, by object
unfoldable pub entry_lines : ℕ → List ℕ → List ℕ → List ℕ
entry_lines objects before now = texts_for objects (entry_line (is_full objects before) before now)

-- the updates of a frame, as carried, each held against the one before it
unfoldable pub update_lines : ℕ → List ℕ → List Change → List ℕ
update_lines objects before [] = []
update_lines objects before (u ∷ us) = update_line u.start u.ramp ++ (entry_lines objects before u.rows ++ update_lines objects u.rows us)

-- a frame
unfoldable pub sheet_text : List ℕ → Sheet → List ℕ
sheet_text before x =
    pick (eqb x.refusal 0)
    (frame_line x.frame x.objects (length x.updates) ++ update_lines x.objects before x.updates)
    (refused_line x.frame x.refusal)

-- frame after frame, each from the rows that the frames before it left
unfoldable pub catalogue : List ℕ → List Sheet → List ℕ
catalogue before [] = []
catalogue before (x ∷ xs) = sheet_text before x ++ catalogue (rows_behind before x.updates) xs
