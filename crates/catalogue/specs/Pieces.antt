-- Catalogues in pieces: call after call, each with the update before that the call before it left, comes to what one call comes to.
use Rattle.std.specs.Prelude.{◌≡◌, refl, List, [], ◌∷◌, ◌++◌, ℕ, ◌+◌, ◌*◌, ◌≤◌, ◌<◌, length, get_or, take, drop}
use Rattle.std.proofs.Common.{sym, ap, ◌∙◌, append_assoc, append-nil, arith, length-append, take_at}
use Rattle.bits.specs.declared.Refusal.TheVariants.{BadLine}
use Rattle.bits.specs.Refusals.{number_of}
use Rattle.bits.specs.Language.{from}
use Rattle.bits.specs.Terms.{Every}
use Rattle.oamd.specs.LeastFirst.{least_first}
use Rattle.oamd.specs.Record.{onto}
use Rattle.text.specs.Lines.{texts}
use Rattle.text.specs.Laying.{last_position}
use Rattle.catalogue.specs.Fields.{most_frame}
use Rattle.catalogue.specs.Sheets.{Sheet, rows_behind, rows_after, zeros, sheets_of, sheet_at}
use Rattle.catalogue.specs.Text.{sheet_text, catalogue}
use Rattle.catalogue.specs.Scan.{got, after}
use Rattle.catalogue.specs.Back.{back}
use Rattle.catalogue.specs.Answer.{before_bytes, none_before, rows_in, rows_laid, Catalogued, cataloguing, Backed, line_bytes, records_bytes, not_backed, reading_back}
use Rattle.catalogue.specs.Fit.{Fit}
use Rattle.catalogue.specs.TextOnly.{Fits, OnlyText, text_only}
use Rattle.catalogue.specs.Lemmas.Lines.{lines_in}
use Rattle.catalogue.specs.Lemmas.EntriesRead.{NoEntry}
use Rattle.catalogue.specs.Lemmas.Kept.{Sized, rows_in-sized, rows-kept, laid_long, after-sized}
use Rattle.catalogue.specs.Lemmas.Calls.{left, written, written_of, read, Read, read_of, bad_of}
use Rattle.catalogue.specs.When.{when_fits, back_fits, back-bad-line}
use Rattle.catalogue.specs.ReadsFit.{sheets-fit}
use Rattle.catalogue.specs.ReadsBack.{catalogue-ends}
use Rattle.catalogue.specs.Lemmas.Joined.{joined-got, joined-bad}

-- ---- the text

pub rows_append : (before : List ℕ) (xs ys : List Sheet) → rows_after before (xs ++ ys) ≡ rows_after (rows_after before xs) ys
unfolding rows_after
rows_append before [] ys = refl
rows_append before (x ∷ xs) ys = rows_append (rows_behind before x.updates) xs ys

pub catalogue-append : (before : List ℕ) (xs ys : List Sheet) → catalogue before (xs ++ ys) ≡ catalogue before xs ++ catalogue (rows_after before xs) ys
unfolding catalogue rows_after
catalogue-append before [] ys = refl
catalogue-append before (x ∷ xs) ys =
    let here = rows_behind before x.updates in
    rw (catalogue-append here xs ys) (sym (append_assoc (sheet_text before x) (catalogue here xs) (catalogue (rows_after here xs) ys)))

-- the sheets of lists put together, of which the first have one length
pub sheets-append : (store starts lengths frames starts' lengths' frames' : List ℕ) → length lengths ≡ length starts → length frames ≡ length starts
    → sheets_of store (starts ++ starts') (lengths ++ lengths') (frames ++ frames') ≡ sheets_of store starts lengths frames ++ sheets_of store starts' lengths' frames'
unfolding sheets_of
sheets-append store [] [] [] starts' lengths' frames' h j = refl
sheets-append store [] [] (f ∷ frames) starts' lengths' frames' h j = absurd (omega arith)
sheets-append store [] (l ∷ lengths) frames starts' lengths' frames' h j = absurd (omega arith)
sheets-append store (s ∷ starts) [] frames starts' lengths' frames' h j = absurd (omega arith)
sheets-append store (s ∷ starts) (l ∷ lengths) [] starts' lengths' frames' h j = absurd (omega arith)
sheets-append store (s ∷ starts) (l ∷ lengths) (f ∷ frames) starts' lengths' frames' h j =
    ap (λ (xs : List Sheet). sheet_at store s l f ∷ xs) (sheets-append store starts lengths frames starts' lengths' frames' (omega arith) (omega arith))

-- ---- the update before

-- The same update before: as many objects, and their rows. Behind the rows each buffer has what stood there
pub record SameBefore (a b : List ℕ) : Type 0 where
  pub long : length a ≡ length b
  pub objects : get_or a 0 0 ≡ get_or b 0 0
  pub rows : rows_in a ≡ rows_in b

same-before : (a b rows : List ℕ) → Sized rows → before_bytes ≤ length a → length b ≡ length a → SameBefore (onto (rows_laid rows) a) (onto (rows_laid rows) b)
unfolding onto rows_laid
same-before a b rows s room l = record {
  long = laid_long rows a s room ∙ sym l ∙ sym (laid_long rows b s (omega arith));
  objects = refl;
  rows = rows-kept rows a s ∙ sym (rows-kept rows b s);
}

module _ (before : List ℕ) (xs : List Sheet) (room : before_bytes ≤ length before) (fit : Every Fit xs) where
  left-sized : Sized (rows_after (rows_in before) xs)
  left-sized = after-sized (rows_in before) xs (rows_in-sized before room) fit

  left-kept : rows_in (left before xs) ≡ rows_after (rows_in before) xs
  left-kept = rows-kept (rows_after (rows_in before) xs) before left-sized

  left_long : length (left before xs) ≡ length before
  left_long = laid_long (rows_after (rows_in before) xs) before left-sized room

  left-joined : (ys : List Sheet) → Every Fit ys → SameBefore (left before (xs ++ ys)) (left (left before xs) ys)
  left-joined ys fit' =
      rw (rows_append (rows_in before) xs ys, left-kept)
      (same-before before (left before xs) (rows_after (rows_after (rows_in before) xs) ys) (after-sized (rows_after (rows_in before) xs) ys left-sized fit') room left_long)

-- ---- writing

-- the text that a call laid: the first bytes of its buffer
abbrev pub laid_text : Catalogued → List ℕ
laid_text c = take c.answer.length c.text

-- one call for both: it lays the two texts one behind the other, and leaves the update before that the second left
pub record JoinedText (first second whole : Catalogued) (buffer : List ℕ) : Type 0 where
  pub refusal : whole.answer.refusal ≡ 0
  pub bytes : whole.answer.length ≡ first.answer.length + second.answer.length
  pub text : whole.text ≡ onto (laid_text first ++ laid_text second) buffer
  pub before : SameBefore whole.before second.before

laid_is : (before text : List ℕ) (xs : List Sheet) → laid_text (written before text xs) ≡ catalogue (rows_in before) xs
unfolding onto
laid_is before text xs = let whole = catalogue (rows_in before) xs in take_at whole (drop (length whole) text) (length whole) refl

module _ (before text text' buffer : List ℕ) (xs ys : List Sheet) (room : before_bytes ≤ length before) (fit : Every Fit xs) (fit' : Every Fit ys) where
  text-joined : catalogue (rows_in before) (xs ++ ys) ≡ catalogue (rows_in before) xs ++ catalogue (rows_in (left before xs)) ys
  text-joined = rw (left-kept before xs room fit) (catalogue-append (rows_in before) xs ys)

  written-joined : JoinedText (written before text xs) (written (left before xs) text' ys) (written before buffer (xs ++ ys)) buffer
  written-joined = record {
    refusal = refl;
    bytes = ap length text-joined ∙ length-append (catalogue (rows_in before) xs) (catalogue (rows_in (left before xs)) ys);
    text = rw (laid_is before text xs, laid_is (left before xs) text' ys, text-joined);
    before = left-joined before xs room fit ys fit';
  }

joined_as : {a a' b b' c c' : Catalogued} {buffer : List ℕ} → a ≡ a' → b ≡ b' → c ≡ c' → JoinedText a' b' c' buffer → JoinedText a b c buffer
joined_as p q r j = rw (p, q, r) j

-- Two calls, the second with the update before that the first left: one call with the lists put together, and room for both texts, comes to the same.
module _ (store starts lengths frames starts' lengths' frames' before text text' buffer : List ℕ) where
  abbrev first : Catalogued
  first = cataloguing store starts lengths frames before text

  abbrev second : Catalogued
  second = cataloguing store starts' lengths' frames' first.before text'

  pub write-pieces : first.answer.refusal ≡ 0 → second.answer.refusal ≡ 0 → first.answer.length + second.answer.length ≤ length buffer
      → Every (λ f. f ≤ most_frame) frames → Every (λ f. f ≤ most_frame) frames'
      → JoinedText first second (cataloguing store (starts ++ starts') (lengths ++ lengths') (frames ++ frames') before buffer) buffer
  write-pieces h h' room few few' =
      let xs : List Sheet = sheets_of store starts lengths frames in
      let ys : List Sheet = sheets_of store starts' lengths' frames' in
      let r = written_of store starts lengths frames before text h in
      let r' = written_of store starts' lengths' frames' first.before text' h' in
      let m = r.matched in
      let m' = r'.matched in
      let d : first ≡ written before text xs = when_fits store starts lengths frames before text m r.before-room r.text-room in
      let d' : second ≡ written (left before xs) text' ys =
      when_fits store starts' lengths' frames' first.before text' m' r'.before-room r'.text-room ∙ ap (λ (o : Catalogued). written o.before text' ys) d in
      let split = sheets-append store starts lengths frames starts' lengths' frames' m.each-length m.each-frame in
      let joined =
      written-joined before text text' buffer xs ys r.before-room (sheets-fit store starts lengths frames few) (sheets-fit store starts' lengths' frames' few') in
      let bytes = joined.bytes in
      let whole = when_fits store (starts ++ starts') (lengths ++ lengths') (frames ++ frames') before buffer
      (record {
        each-length = simp length-append (omega (arith, m.each-length, m'.each-length));
        each-frame = simp length-append (omega (arith, m.each-frame, m'.each-frame));
      })
      r.before-room (rw split (omega (arith, ap (λ (o : Catalogued). o.answer.length) d, ap (λ (o : Catalogued). o.answer.length) d'))) in
      joined_as d d' (whole ∙ ap (written before buffer) split) joined

-- ---- reading

-- the bytes of a frame's line
abbrev pub line_length : ℕ
line_length = 40

line_long : (x : Sheet) → length (line_bytes x) ≡ line_length
unfolding line_bytes least_first texts from
line_long x = refl

pub lines_long : (xs : List Sheet) → length (texts line_bytes xs) ≡ line_length * length xs
unfolding texts
lines_long [] = refl
lines_long (x ∷ xs) = omega (arith, length-append (line_bytes x) (texts line_bytes xs), line_long x, lines_long xs)

pub texts-append : {A : Type 0} (f : A → List ℕ) (xs ys : List A) → texts f (xs ++ ys) ≡ texts f xs ++ texts f ys
unfolding texts
texts-append f [] ys = refl
texts-append f (x ∷ xs) ys = rw (texts-append f xs ys) (sym (append_assoc (f x) (texts f xs) (texts f ys)))

-- the lines and the records that a call laid: the first bytes of their buffers
abbrev pub laid_lines : Backed → List ℕ
laid_lines b = take (line_length * b.answer.frames) b.lines

abbrev pub laid_records : Backed → List ℕ
laid_records b = take b.answer.bytes b.records

-- one call for both: lines and records of the first and then of the second, and the update before that the second left
pub record JoinedBack (first second whole : Backed) (room_lines room_records : List ℕ) : Type 0 where
  pub refusal : whole.answer.refusal ≡ 0
  pub frames : whole.answer.frames ≡ first.answer.frames + second.answer.frames
  pub bytes : whole.answer.bytes ≡ first.answer.bytes + second.answer.bytes
  pub lines : whole.lines ≡ onto (laid_lines first ++ laid_lines second) room_lines
  pub records : whole.records ≡ onto (laid_records first ++ laid_records second) room_records
  pub before : SameBefore whole.before second.before

front : (s buffer : List ℕ) (n : ℕ) → length s ≡ n → take n (onto s buffer) ≡ s
unfolding onto
front s buffer n h = take_at s (drop (length s) buffer) n h

pub laid-lines : (before lines records : List ℕ) (xs : List Sheet) → laid_lines (read before lines records xs) ≡ texts line_bytes xs
laid-lines before lines records xs = front (texts line_bytes xs) lines (line_length * length xs) (lines_long xs)

pub laid-records : (before lines records : List ℕ) (xs : List Sheet) → laid_records (read before lines records xs) ≡ texts records_bytes xs
laid-records before lines records xs = front (texts records_bytes xs) records (length (texts records_bytes xs)) refl

module _ (before lines records lines' records' room_lines room_records : List ℕ) (xs ys : List Sheet) (room : before_bytes ≤ length before) (fit : Every Fit xs) (fit' : Every Fit ys) where
  read-joined : JoinedBack (read before lines records xs) (read (left before xs) lines' records' ys) (read before room_lines room_records (xs ++ ys)) room_lines room_records
  read-joined = record {
    refusal = refl;
    frames = length-append xs ys;
    bytes = ap length (texts-append records_bytes xs ys) ∙ length-append (texts records_bytes xs) (texts records_bytes ys);
    lines = rw (laid-lines before lines records xs, laid-lines (left before xs) lines' records' ys, texts-append line_bytes xs ys);
    records = rw (laid-records before lines records xs, laid-records (left before xs) lines' records' ys, texts-append records_bytes xs ys);
    before = left-joined before xs room fit ys fit';
  }

-- no entry begins the text of a catalogue
no-entry_in : (before text : List ℕ) (xs : List Sheet) → text ≡ catalogue before xs → NoEntry text
unfolding after
no-entry_in before text xs e = rw (e, sym (append-nil (catalogue before xs))) (catalogue-ends before xs [] refl)

read_as : {a a' b b' c c' : Backed} {lines records : List ℕ} → a ≡ a' → b ≡ b' → c ≡ c' → JoinedBack a' b' c' lines records → JoinedBack a b c lines records
read_as p q r j = rw (p, q, r) j

-- The update before has to be one that a catalogue can hold: none is, and so is what an accepted call leaves
pub none_fits : Fits (rows_in none_before)
unfolding rows_in none_before zeros
none_fits = record { objects = 0; most = omega arith; fit = record { long = refl; least = λ j k l m. absurd (omega arith); most = λ j k l m. absurd (omega arith) } }

module _ (text before lines records : List ℕ) (r : Read text before lines records) where
  pub comes_to : reading_back text before lines records ≡ read before lines records r.sheets
  comes_to = back_fits text before lines records r.sheets r.line r.rest r.before-room r.sheets-are r.records-room r.lines-room

  pub whole-text : OnlyText (rows_in before) text r.sheets r.rest
  whole-text = text_only (rows_in before) text r.sheets r.line r.rest r.sheets-are

  carried : Fits (rows_in before) → rows_in (reading_back text before lines records).before ≡ rows_after (rows_in before) r.sheets
  carried fit = ap (λ (o : Backed). rows_in o.before) comes_to ∙ left-kept before r.sheets r.before-room (whole-text.fit fit)

pub left_fits : (text before lines records : List ℕ) → Fits (rows_in before) → (reading_back text before lines records).answer.refusal ≡ 0
    → Fits (rows_in (reading_back text before lines records).before)
left_fits text before lines records fit h =
    let r = read_of text before lines records h in
    rw (carried text before lines records r fit) ((whole-text text before lines records r).next fit)

-- Two calls, the second with the update before that the first left: one call with the texts put together, and room for what both gave, comes to the same.
module _ (a b before lines records lines' records' room_lines room_records : List ℕ) where
  abbrev first_back : Backed
  first_back = reading_back a before lines records

  abbrev second_back : Backed
  second_back = reading_back b first_back.before lines' records'

  abbrev whole_back : Backed
  whole_back = reading_back (a ++ b) before room_lines room_records

  pub read-pieces : Fits (rows_in before) → first_back.answer.refusal ≡ 0 → second_back.answer.refusal ≡ 0
      → first_back.answer.bytes + second_back.answer.bytes ≤ length room_records
      → line_length * (first_back.answer.frames + second_back.answer.frames) ≤ length room_lines
      → JoinedBack first_back second_back whole_back room_lines room_records
  read-pieces fit h h' room-records room-lines =
      let r = read_of a before lines records h in
      let r' = read_of b first_back.before lines' records' h' in
      let xs : List Sheet = r.sheets in
      let ys : List Sheet = r'.sheets in
      let rows : List ℕ = rows_after (rows_in before) xs in
      let t = whole-text a before lines records r in
      let e : back rows b ≡ got ys r'.line r'.rest = ap (λ (x : List ℕ). back x b) (sym (carried a before lines records r fit)) ∙ r'.sheets-are in
      let t' = text_only rows b ys r'.line r'.rest e in
      let (i, whole) = joined-got (rows_in before) a b xs r.line r.rest r.sheets-are fit (no-entry_in rows b ys t'.text_is) ys r'.line r'.rest e in
      let d : first_back ≡ read before lines records xs = comes_to a before lines records r in
      let d' : second_back ≡ read (left before xs) lines' records' ys =
      comes_to b first_back.before lines' records' r' ∙ ap (λ (o : Backed). read o.before lines' records' ys) d in
      let j = read-joined before lines records lines' records' room_lines room_records xs ys r.before-room (t.fit fit) (t'.fit (t.next fit)) in
      let bytes = j.bytes in
      let frames = length-append xs ys in
      read_as d d' (back_fits (a ++ b) before room_lines room_records (xs ++ ys) i r'.rest r.before-room whole
      (omega (arith, ap (λ (o : Backed). o.answer.bytes) d, ap (λ (o : Backed). o.answer.bytes) d'))
      (omega (arith, lines_long (xs ++ ys), ap (λ (o : Backed). o.answer.frames) d, ap (λ (o : Backed). o.answer.frames) d'))) j

  -- The second text refused for line k, both are refused for the line k behind those of the first; if no entry begins the second, as where a frame's line does
  pub read-pieces-bad : Fits (rows_in before) → first_back.answer.refusal ≡ 0 → second_back.answer.refusal ≡ number_of BadLine
      → NoEntry b → length (a ++ b) < last_position
      → whole_back ≡ not_backed before room_lines room_records (number_of BadLine) (lines_in a + second_back.answer.place)
  read-pieces-bad fit h h' q l =
      let r = read_of a before lines records h in
      let e = ap (λ (x : List ℕ). back x b) (sym (carried a before lines records r fit)) ∙ bad_of b first_back.before lines' records' h' in
      back-bad-line (a ++ b) before room_lines room_records _ r.before-room
      (joined-bad (rows_in before) a b r.sheets r.line r.rest r.sheets-are fit q second_back.answer.place e l)
