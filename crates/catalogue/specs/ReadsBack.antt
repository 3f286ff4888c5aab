-- The catalogue of sheets is read back as these sheets, whatever the update before them.
use Rattle.std.specs.Prelude.{◌≡◌, refl, Bool, true, false, not, List, [], ◌∷◌, ◌++◌, ℕ, zero, suc, ◌+◌, ◌≤◌, eqb, length}
use Rattle.std.proofs.Common.{sym, ap, ◌∙◌, append-nil, append_assoc, ⊎_elim, arith, length-append, eqb-true, eq-eqb, ne_eqb}
use Prim.Native.Char.{code}
use Rattle.std.proofs.lemmas.List.{length-replicate}
use Rattle.std.proofs.lemmas.Bool.{not-false}
use Rattle.bits.specs.Language.{pick, between, from}
use Rattle.bits.specs.Steps.{below_free, above-free}
use Rattle.bits.specs.Terms.{Every}
use Rattle.oamd.specs.Tables.{most_objects, most_blocks}
use Rattle.keys.specs.Names.{refusal_key, objects_key, blocks_key, frame_key, start_key, ramp_key}
use Rattle.text.specs.Numerals.{decimal}
use Rattle.text.specs.Lines.{texts, comma, newline}
use Rattle.text.specs.Laying.{capped}
use Rattle.catalogue.specs.Sheets.{Change, Sheet, refused_sheet, accepted_sheet, rows_bytes, rows_behind, zeros}
use Rattle.catalogue.specs.Text.{pair, changes, entry_line, update_line, frame_line, refused_line, is_full, entry_lines, update_lines, sheet_text, catalogue}
use Rattle.catalogue.specs.Scan.{got, after}
use Rattle.catalogue.specs.Back.{value, rows_here, update_back, updates_back, refused_back, accepted_back, sheet_back, sheets_back, back}
use Rattle.catalogue.specs.Fit.{FitChange, CanBe, Fit, refused, accepted}
use Rattle.catalogue.specs.NumeralBack.{NoDigit}
use Rattle.catalogue.specs.Lemmas.Lines.{lines_in, behind, behind_is, InLine}
use Rattle.catalogue.specs.Lemmas.Cells.{laid_all}
use Rattle.catalogue.specs.Lemmas.Reads.{Reads, End, r-stop, r_more, r-give, r-word, r-number, r_end-line, r_there, r_else, r-bind, r-check, r-text, r-value, r-before, r_last}
use Rattle.catalogue.specs.Lemmas.EntriesRead.{first_of, entries_of, NoEntry, next-reads, entries-split, first_least, rest-ends, entries-read}

-- KEY=NUMBER
value-reads : (key : List ℕ) {least most v : ℕ} → InLine key → least ≤ v → v ≤ most → Reads (value key least most) (pair key v) v NoDigit
value-reads key h l m = r-bind (r-word key h) (λ s q. tt) (r-number l m)

-- ---- an update

pub here-length : (objects : ℕ) (before : List ℕ) → length (rows_here objects before) ≡ rows_bytes objects
unfolding rows_here zeros
here-length objects before = go (is_full objects before) refl
  where
    go : (t : Bool) → is_full objects before ≡ t → length (pick t (zeros (rows_bytes objects)) before) ≡ rows_bytes objects
    go true e = length-replicate (rows_bytes objects) 0
    go false e = eqb-true (length before) (rows_bytes objects) (not-false (eqb (length before) (rows_bytes objects)) e)

every-field : (old before now : List ℕ) → entry_line true old now ≡ entry_line true before now
unfolding entry_line changes
every-field old before now = refl

-- an update that lists every field does not look at the one before
pub entries_here : (objects : ℕ) (before now : List ℕ)
    → entries_of (is_full objects before) (rows_here objects before) now 0 objects ≡ entry_lines objects before now
unfolding rows_here entry_lines
entries_here objects before now = go (is_full objects before)
  where
    go : (t : Bool) → entries_of t (pick t (zeros (rows_bytes objects)) before) now 0 objects ≡ texts (entry_line t before now) (from 0 objects)
    go true = ap (λ (f : ℕ → List ℕ). texts f (from 0 objects)) (every-field (zeros (rows_bytes objects)) before now)
    go false = refl

pub two-pairs : (a b e : List ℕ) → a ++ ((comma ∷ []) ++ (b ++ ((newline ∷ []) ++ e))) ≡ ((a ++ (comma ∷ b)) ++ (newline ∷ [])) ++ e
two-pairs a b e = simp append_assoc

pub three-pairs : (a b c e : List ℕ)
    → a ++ ((comma ∷ []) ++ (b ++ ((comma ∷ []) ++ (c ++ ((newline ∷ []) ++ e))))) ≡ ((a ++ (comma ∷ (b ++ (comma ∷ c)))) ++ (newline ∷ [])) ++ e
three-pairs a b c e = simp append_assoc

update-reads : (objects : ℕ) (before : List ℕ) (u : Change) → FitChange objects u → objects ≤ most_objects
    → Reads (update_back objects before) (update_line u.start u.ramp ++ entry_lines objects before u.rows) u NoEntry
unfolding update_back update_line behind
update-reads objects before u fit few =
    let full = is_full objects before in
    let old = rows_here objects before in
    let now = u.rows in
    let entries = entries-read full objects old now fit.rows few 0 objects old (omega arith) (λ i l. refl) in
    r-text (two-pairs (pair start_key u.start) (pair ramp_key u.ramp) (entry_lines objects before now))
    (r-value (ap (λ (rows : List ℕ). record { start = u.start; ramp = u.ramp; rows = rows }) (laid_all old now (rows_bytes objects) (here-length objects before) fit.rows.long))
    (r-bind (value-reads start_key (λ n. refl) (omega arith) fit.start) (λ s q. refl)
    (r-bind (r-word (comma ∷ []) (λ n. refl)) (λ s q. tt)
    (r-bind (value-reads ramp_key (λ n. refl) (omega arith) fit.ramp) (λ s q. refl)
    (r-bind r_end-line (λ s q. tt)
    (r-text (sym (entries-split full old now 0 objects (omega arith)) ∙ entries_here objects before now)
    (r-bind (next-reads (first_of full old now 0 objects) (first_least full old now 0 objects (omega arith)).1) (rest-ends full old now 0 objects (omega arith))
    (r_last entries (r-give _)))))))))

-- ---- a frame

updates_end : (objects : ℕ) (before : List ℕ) (us : List Change) (s : List ℕ) → NoEntry s → NoEntry (update_lines objects before us ++ s)
unfolding update_lines update_line after
updates_end objects before [] s q = q
updates_end objects before (u ∷ us) s q = refl

updates-read : (objects : ℕ) (before : List ℕ) (us : List Change) → Every (FitChange objects) us → objects ≤ most_objects
    → Reads (updates_back objects (length us) before) (update_lines objects before us) us NoEntry
unfolding updates_back update_lines
updates-read objects before [] fit few = r-give []
updates-read objects before (u ∷ us) fit few =
    r-text (append_assoc (update_line u.start u.ramp) (entry_lines objects before u.rows) (update_lines objects u.rows us))
    (r-bind (update-reads objects before u fit.0 few) (updates_end objects u.rows us)
    (r_last (updates-read objects u.rows us fit.1 few) (r-give (u ∷ us))))

refused-reads : (frame refusal : ℕ) → CanBe refusal → Reads (refused_back frame) (decimal refusal ++ (newline ∷ [])) (refused_sheet frame refusal) NoEntry
unfolding refused_back
refused-reads frame refusal can =
    let least : 1 ≤ refusal = ⊎_elim (λ h. h.0) (λ h. omega arith) can in
    let most : refusal ≤ 12 = ⊎_elim (λ h. let l = h.1 in omega arith) (λ h. omega arith) can in
    let free : between 9 11 refusal ≡ false = ⊎_elim (λ h. let l = h.1 in below_free 9 11 refusal (omega arith)) (λ h. above-free 9 11 refusal (omega arith)) can in
    r-bind (r-number least most) (λ s q. refl) (r_last (r-check (ap not free) (r-before (λ s q. tt) r_end-line)) (r-give _))

accepted-reads : (before : List ℕ) (frame objects : ℕ) (us : List Change) → 1 ≤ objects → objects ≤ most_objects → length us ≤ most_blocks
    → Every (FitChange objects) us
    → Reads (accepted_back before frame) (pair objects_key objects ++ ((comma ∷ []) ++ (pair blocks_key (length us) ++ ((newline ∷ []) ++ update_lines objects before us))))
    (accepted_sheet frame objects us) NoEntry
unfolding accepted_back behind
accepted-reads before frame objects us some_there few blocks fit =
    r-bind (value-reads objects_key (λ n. refl) some_there few) (λ s q. refl)
    (r-bind (r-word (comma ∷ []) (λ n. refl)) (λ s q. tt)
    (r-bind (value-reads blocks_key (λ n. refl) (omega arith) blocks) (λ s q. refl)
    (r-bind r_end-line (λ s q. tt) (r_last (updates-read objects before us fit few) (r-give _)))))

pub sheet-reads : (before : List ℕ) (x : Sheet) → Fit x → Reads (sheet_back before) (sheet_text before x) x NoEntry
unfolding sheet_back sheet_text refused_line frame_line behind after
sheet-reads before x (refused l can e) =
    let some_number : x.refusal ≡ 0 → ⊥ = λ z. ⊎_elim (λ h. let l = h.0 in omega arith) (λ h. omega arith) can in
    rw (ne_eqb x.refusal 0 some_number)
    (r-value (sym e)
    (r-text (simp append_assoc)
    (r-bind (value-reads frame_key (λ n. refl) (omega arith) l) (λ s q. refl)
    (r-bind (r-word (comma ∷ []) (λ n. refl)) (λ s q. tt) (r_there refusal_key (λ n. refl) (refused-reads x.frame x.refusal can))))))
sheet-reads before x (accepted l z some_there few blocks fit) =
    rw (eq-eqb x.refusal 0 z)
    (r-value (ap (λ (r : ℕ). record { frame = x.frame; refusal = r; objects = x.objects; updates = x.updates }) (sym z))
    (r-text (three-pairs (pair frame_key x.frame) (pair objects_key x.objects) (pair blocks_key (length x.updates)) (update_lines x.objects before x.updates))
    (r-bind (value-reads frame_key (λ n. refl) (omega arith) l) (λ s q. refl)
    (r-bind (r-word (comma ∷ []) (λ n. refl)) (λ s q. tt)
    (r_else refusal_key (λ s q. refl) (accepted-reads before x.frame x.objects x.updates some_there few blocks fit))))))

-- ---- a catalogue

-- a frame begins with its key
pub sheet-key : (before : List ℕ) (x : Sheet) → (t : List ℕ) × (sheet_text before x ≡ frame_key ++ t)
unfolding sheet_text refused_line frame_line
sheet-key before x = go (eqb x.refusal 0)
  where
    go : (b : Bool) → (t : List ℕ) × (pick b (frame_line x.frame x.objects (length x.updates) ++ update_lines x.objects before x.updates)
        (refused_line x.frame x.refusal) ≡ frame_key ++ t)
    go true = (_, refl)
    go false = (_, refl)

-- so no frame is without text
pub catalogue-length : (before : List ℕ) (xs : List Sheet) → length xs ≤ length (catalogue before xs)
unfolding catalogue
catalogue-length before [] = omega arith
catalogue-length before (x ∷ xs) =
    let rest = catalogue (rows_behind before x.updates) xs in
    let k = sheet-key before x in
    omega (arith, catalogue-length (rows_behind before x.updates) xs, length-append (sheet_text before x) rest, ap length k.1, length-append frame_key k.0)

-- and none is taken for an entry
pub catalogue-ends : (before : List ℕ) (xs : List Sheet) (s : List ℕ) → NoEntry s → NoEntry (catalogue before xs ++ s)
unfolding catalogue after
catalogue-ends before [] s q = q
catalogue-ends before (x ∷ xs) s q = rw (sheet-key before x).1 refl

end-ends : (s : List ℕ) → End s → NoEntry s
unfolding after
end-ends [] h = refl
end-ends (c ∷ s) h = absurd h

-- up to m frames
pub sheets-read : (m : ℕ) (before : List ℕ) (xs : List Sheet) → Every Fit xs → length xs ≤ m → Reads (sheets_back m before) (catalogue before xs) xs End
unfolding sheets_back catalogue
sheets-read zero before [] fit h = r-stop (r-give [])
sheets-read (suc m) before [] fit h = r-stop (r-give [])
sheets-read zero before (x ∷ xs) fit h = absurd (omega arith)
sheets-read (suc m) before (x ∷ xs) fit h =
    let then = rows_behind before x.updates in
    r_more (code "f") (λ s q. rw (sheet-key before x).1 refl)
    (r-bind (sheet-reads before x fit.0) (λ s q. catalogue-ends then xs s (end-ends s q))
    (r_last (sheets-read m then xs fit.1 (omega arith)) (r-give (x ∷ xs))))

pub reads-back : (before : List ℕ) (xs : List Sheet) → Every Fit xs → back before (catalogue before xs) ≡ got xs (behind 1 (catalogue before xs)) []
unfolding back
reads-back before xs fit =
    let text = catalogue before xs in
    rw (append-nil text) at ((sheets-read (length text) before xs fit (catalogue-length before xs)).reads 1 [] tt)

-- the line behind the text, by how many lines it has
pub reads_back-lines : (before : List ℕ) (xs : List Sheet) → Every Fit xs
    → back before (catalogue before xs) ≡ got xs (capped (1 + lines_in (catalogue before xs))) []
reads_back-lines before xs fit = reads-back before xs fit ∙ ap (λ (n : ℕ). got xs n []) (behind_is 1 (catalogue before xs) (omega arith))

-- so no two lists of sheets have the same catalogue
pub accepted_one : (before : List ℕ) (xs ys : List Sheet) → Every Fit xs → Every Fit ys → catalogue before xs ≡ catalogue before ys → xs ≡ ys
accepted_one before xs ys f g e =
    let a = reads-back before xs f in
    let b = reads-back before ys g in
    cc
