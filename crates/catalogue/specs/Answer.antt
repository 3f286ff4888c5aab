-- What the calls answer, and what the lent buffers hold afterwards, for all bytes, all lists and all buffers.
use Rattle.std.specs.Prelude.{List, [], ◌∷◌, ◌++◌, ℕ, ◌+◌, ◌*◌, ◌/◌, min, eqb, leb, length, get_or, take, drop}
use Rattle.bits.specs.declared.Refusal.TheVariants.{Room, Lists, BadLine, ShortText}
use Rattle.bits.specs.Refusals.{number_of}
use Rattle.bits.specs.Language.{pick, both}
use Rattle.oamd.specs.Tables.{most_objects, most_blocks, record_bytes, frame_samples}
use Rattle.oamd.specs.LeastFirst.{least_first}
use Rattle.oamd.specs.Record.{onto}
use Rattle.oamd.specs.Time.{time_bytes_of}
use Rattle.text.specs.Lines.{texts, texts_for}
use Rattle.text.specs.Laying.{capped}
use Rattle.catalogue.specs.declared.CatalogueAnswer.{CatalogueAnswer}
use Rattle.catalogue.specs.declared.BackAnswer.{BackAnswer}
use Rattle.catalogue.specs.Sheets.{Change, Sheet, rows_bytes, row_of, rows_after, zeros, sheets_of}
use Rattle.catalogue.specs.Text.{catalogue}
use Rattle.catalogue.specs.Scan.{Got, got, bad}
use Rattle.catalogue.specs.Back.{back}

-- ---- the update before, as it is lent from call to call: how many objects it has, and their rows; 0 where there is none yet

abbrev pub before_bytes : ℕ
before_bytes = 1 + rows_bytes most_objects

unfoldable pub rows_in : List ℕ → List ℕ
rows_in before = take (rows_bytes (min (get_or before 0 0) most_objects)) (drop 1 before)

unfoldable pub rows_laid : List ℕ → List ℕ
rows_laid rows = length rows / record_bytes ∷ rows

-- ---- writing

-- the answer, and afterwards the buffers lent for the update before and for the text
pub record Catalogued : Type 0 where
  pub answer : CatalogueAnswer
  pub before : List ℕ
  pub text : List ℕ

abbrev pub catalogue_answer : ℕ → ℕ → ℕ → CatalogueAnswer
catalogue_answer refusal place bytes = record { place = place; length = bytes; refusal = refusal }

-- refused, both buffers are as they came
abbrev pub not_catalogued : List ℕ → List ℕ → ℕ → ℕ → Catalogued
not_catalogued before text refusal place = record { answer = catalogue_answer refusal place 0; before = before; text = text }

-- Accepted, the text is the first bytes of its buffer and the last update the first bytes of its own; the others stay. The place of a text that does not fit is the bytes that it needs
unfoldable pub catalogued : List ℕ → List ℕ → List Sheet → Catalogued
catalogued before text xs =
    let whole = catalogue (rows_in before) xs in
    pick (leb (length whole) (length text))
    (record { answer = catalogue_answer 0 0 (length whole); before = onto (rows_laid (rows_after (rows_in before) xs)) before; text = onto whole text })
    (not_catalogued before text (number_of ShortText) (capped (length whole)))

-- a length and a frame for each start; then room for the update before; then room for the text
unfoldable pub cataloguing : List ℕ → List ℕ → List ℕ → List ℕ → List ℕ → List ℕ → Catalogued
cataloguing store starts lengths frames before text =
    pick (both (eqb (length lengths) (length starts)) (eqb (length frames) (length starts)))
    (pick (leb before_bytes (length before)) (catalogued before text (sheets_of store starts lengths frames)) (not_catalogued before text (number_of Room) before_bytes))
    (not_catalogued before text (number_of Lists) (length starts))

-- nothing yet
unfoldable pub none_before : List ℕ
none_before = zeros before_bytes

-- ---- reading back

-- the answer, and afterwards the buffers lent for the update before, for the frames' lines and for the records
pub record Backed : Type 0 where
  pub answer : BackAnswer
  pub before : List ℕ
  pub lines : List ℕ
  pub records : List ℕ

abbrev pub back_answer : ℕ → ℕ → ℕ → ℕ → BackAnswer
back_answer refusal place frames bytes = record { place = place; frames = frames; bytes = bytes; refusal = refusal }

-- start and ramp of an update, in two bytes each, the least first
abbrev pub update_bytes : Change → List ℕ
update_bytes u = least_first 2 u.start ++ least_first 2 u.ramp

abbrev pub no_change : Change
no_change = record { start = 0; ramp = 0; rows = [] }

-- the line of a frame: its number, least byte first, its refusal, its objects, its blocks, and its updates; those that there are not are 0
unfoldable pub line_bytes : Sheet → List ℕ
line_bytes x =
    least_first 4 x.frame
    ++ ((x.refusal ∷ x.objects ∷ length x.updates ∷ 0 ∷ []) ++ texts_for most_blocks (λ blk. update_bytes (get_or x.updates blk no_change)))

-- its records, each with its time: objects outermost, blocks within
unfoldable pub records_bytes : Sheet → List ℕ
records_bytes x = texts_for x.objects (λ j. texts (λ u. row_of u.rows j ++ time_bytes_of (x.frame * frame_samples + u.start)) x.updates)

abbrev pub not_backed : List ℕ → List ℕ → List ℕ → ℕ → ℕ → Backed
not_backed before lines records refusal place = record { answer = back_answer refusal place 0 0; before = before; lines = lines; records = records }

-- room for the records, then room for the lines
unfoldable pub housed : List ℕ → List ℕ → List ℕ → List Sheet → Backed
housed before lines records xs =
    let all = texts records_bytes xs in
    let each = texts line_bytes xs in
    pick (leb (length all) (length records))
    (pick (leb (length each) (length lines))
    (record {
      answer = back_answer 0 0 (length xs) (length all);
      before = onto (rows_laid (rows_after (rows_in before) xs)) before;
      lines = onto each lines;
      records = onto all records;
    })
    (not_backed before lines records (number_of Room) (capped (length each))))
    (not_backed before lines records (number_of Room) (capped (length all)))

abbrev pub backed : List ℕ → List ℕ → List ℕ → Got (List Sheet) → Backed
backed before lines records (bad n) = not_backed before lines records (number_of BadLine) n
backed before lines records (got xs n s) = housed before lines records xs

-- room for the update before; then the text; then room for what it gives
unfoldable pub reading_back : List ℕ → List ℕ → List ℕ → List ℕ → Backed
reading_back text before lines records =
    pick (leb before_bytes (length before)) (backed before lines records (back (rows_in before) text)) (not_backed before lines records (number_of Room) before_bytes)
