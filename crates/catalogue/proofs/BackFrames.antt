-- The frames of a text, one after the other. Assumes nothing.
use mathlib.Core.Path.{◌≡◌, refl, sym, ap, ◌∙◌}
use mathlib.Core.List.{List, [], ◌∷◌, ◌++◌, append-nil, append_assoc}
use Prim.Native.Nat.{ℕ, ◌+◌, ◌<◌, ◌≤◌}
use native.Mathlib.Omega.{arith}
use lib.ListN.{length, length-append}
use Rattle.text.specs.Lines.{texts}
use Rattle.text.specs.Laying.{last_position, Laid}
use Rattle.text.proofs.LayLaws.{laid_nil, laid-bind, laid_is}
use Rattle.catalogue.specs.declared.Page.{Page}
use Rattle.catalogue.specs.declared.Reader.{Reader}
use Rattle.catalogue.specs.declared.Tally.{Tally}
use Rattle.catalogue.specs.Sheets.{Sheet, rows_behind, rows_after}
use Rattle.catalogue.specs.Scan.{Got, got, bad, run}
use Rattle.catalogue.specs.Back.{sheet_back, sheets_back, back}
use Rattle.catalogue.specs.Answer.{line_bytes, records_bytes}
use Rattle.catalogue.specs.Parts.{runs}
use Rattle.catalogue.specs.BackCalls.{sheet_in, line_of, records_of, Laying}
use Rattle.catalogue.specs.Lemmas.Enough.{takes, same}
use Rattle.catalogue.specs.Pieces.{rows_append, texts-append}
use Rattle.catalogue.proofs.BackLending.{line_is, records-are}
use Rattle.catalogue.proofs.BackRuns.{mapped, maps_same, maps_then, mapped-mapped, mapped-alike}

-- ---- the next frame of a text of which some is left

-- what is left of a text, read
abbrev pub frames_left : List ℕ → ℕ → List ℕ → Got (List Sheet)
frames_left before n s = run (sheets_back (length s) before) n s

frames_more : (before : List ℕ) (n : ℕ) (s : List ℕ) (x : Sheet) (m : ℕ) (r : List ℕ) → 0 < length s → run (sheet_back before) n s ≡ got x m r
    → frames_left before n s ≡ mapped (λ xs. x ∷ xs) (frames_left (rows_behind before x.updates) m r)
unfolding sheets_back run
frames_more before n [] x m r h e = absurd (omega arith)
frames_more before n (y ∷ s) x m r h e =
    let short = takes before n (y ∷ s) e in
    let now = rows_behind before x.updates in
    rw e (sym ((maps_then (λ xs. x ∷ xs) (maps_same (sheets_back (length s) now))).on m r)) ∙ ap (mapped (λ xs. x ∷ xs)) (same (length s) (length r) now m r (omega arith) (omega arith))

frames-bad : (before : List ℕ) (n : ℕ) (s : List ℕ) (k : ℕ) → 0 < length s → run (sheet_back before) n s ≡ bad k → frames_left before n s ≡ bad k
unfolding sheets_back run
frames-bad before n [] k h e = absurd (omega arith)
frames-bad before n (y ∷ s) k h e = rw e

frames_none : (before : List ℕ) (n : ℕ) (s : List ℕ) → length s ≡ 0 → frames_left before n s ≡ got [] n s
unfolding sheets_back run
frames_none before n [] e = refl
frames_none before n (y ∷ s) e = absurd (omega arith)

-- ---- a loop over the frames

texts_last : {A : Type 0} (f : A → List ℕ) (xs : List A) (x : A) → texts f xs ++ f x ≡ texts f (xs ++ (x ∷ []))
unfolding texts
texts_last f xs x = sym (texts-append f xs (x ∷ []) ∙ ap (λ (l : List ℕ). texts f xs ++ l) (append-nil (f x)))

rows_last : (before : List ℕ) (xs : List Sheet) (x : Sheet) → rows_behind (rows_after before xs) x.updates ≡ rows_after before (xs ++ (x ∷ []))
unfolding rows_after
rows_last before xs x = sym (rows_append before xs (x ∷ []))

-- the frames read so far, laid, and what is left of the text
pub record Reached (text before : List ℕ) (r : Reader) (now lines lines' records records' : List ℕ) (t : Tally) : Type 0 where
  pub done : List Sheet
  pub left : back before text ≡ mapped (λ xs. done ++ xs) (frames_left now r.line r.rest.now)
  pub last : now ≡ rows_after before done
  pub each : Laid lines lines' 0 t.lines (texts line_bytes done)
  pub all : Laid records records' 0 t.records (texts records_bytes done)
  pub many : t.frames ≡ length done
  pub fewer : length done + length r.rest.now ≤ length text

pub reached_none : (text before lines records : List ℕ) (r : Reader) → r.line ≡ 1 → r.rest.now ≡ text → length lines ≤ last_position → length records ≤ last_position
    → Reached text before r before lines lines records records (record { frames = 0; lines = 0; records = 0 })
unfolding back texts rows_after
reached_none text before lines records r e f h i = record {
  done = [];
  left = rw (e, f) (sym ((maps_same (sheets_back (length text) before)).on 1 text));
  last = refl;
  each = laid_nil h (omega arith);
  all = laid_nil i (omega arith);
  many = refl;
  fewer = omega (arith, ap length f);
}

module _ {text before now lines lines' records records' : List ℕ} {r : Reader} {t : Tally} (h : Reached text before r now lines lines' records records' t)
    (inside : 0 < length r.rest.now) where
  -- what a frame took of the text
  pub further : {x : Sheet} {m : ℕ} {s : List ℕ} → got x m s ≡ runs r (sheet_back now) → length s < length r.rest.now
  further e = omega (arith, takes now r.line r.rest.now (sym e))

  pub reached_more : (p : Page) (store : List ℕ) {now' : List ℕ} {r' : Reader} → got (sheet_in p store) r'.line r'.rest.now ≡ runs r (sheet_back now)
      → now' ≡ rows_behind now (sheet_in p store).updates → {lines'' records'' : List ℕ} {to up : ℕ} → Laid lines' lines'' t.lines to (line_of p)
      → Laid records' records'' t.records up (records_of p store)
      → Reached text before r' now' lines lines'' records records'' (record { frames = t.frames + 1; lines = to; records = up })
  reached_more p store {now'} {r'} e f line-laid records-laid =
      let done = h.done in
      let x : Sheet = sheet_in p store in
      let more : back before text ≡ mapped (λ xs. done ++ xs) (mapped (λ xs. x ∷ xs) (frames_left (rows_behind now x.updates) r'.line r'.rest.now)) =
      h.left ∙ ap (mapped (λ xs. done ++ xs)) (frames_more now r.line r.rest.now x r'.line r'.rest.now inside (sym e)) in
      let alike = mapped-alike _ (λ xs. (done ++ (x ∷ [])) ++ xs) (frames_left (rows_behind now x.updates) r'.line r'.rest.now) (λ xs. sym (append_assoc done (x ∷ []) xs)) in
      record {
        done = done ++ (x ∷ []);
        left =
            more ∙ mapped-mapped (λ xs. done ++ xs) (λ xs. x ∷ xs) (frames_left (rows_behind now x.updates) r'.line r'.rest.now) ∙ alike
            ∙ ap (λ (l : List ℕ). mapped (λ xs. (done ++ (x ∷ [])) ++ xs) (frames_left l r'.line r'.rest.now)) (sym f);
        last = f ∙ ap (λ (l : List ℕ). rows_behind l x.updates) h.last ∙ rows_last before done x;
        each = laid_is (texts_last line_bytes done x) (laid-bind h.each (laid_is (sym (line_is p store)) line-laid));
        all = laid_is (texts_last records_bytes done x) (laid-bind h.all (laid_is (sym (records-are p store)) records-laid));
        many = omega (arith, h.many, length-append done (x ∷ []));
        fewer = omega (arith, h.fewer, further e, length-append done (x ∷ []));
      }

  pub reached-bad : {k : ℕ} → bad k ≡ runs r (sheet_back now) → back before text ≡ bad k
  reached-bad {k} e = h.left ∙ ap (mapped (λ xs. h.done ++ xs)) (frames-bad now r.line r.rest.now k inside (sym e))

length-zero : {A : Type 0} (l : List A) → length l ≡ 0 → l ≡ []
length-zero [] e = refl
length-zero (x ∷ l) e = absurd (omega arith)

pub reached_all : {text before now lines lines' records records' : List ℕ} {r : Reader} {t : Tally} → Reached text before r now lines lines' records records' t → length r.rest.now ≡ 0
    → Laying text before now lines lines' records records' t
reached_all {now = now} {r = r} h none =
    let end : r.rest.now ≡ [] = length-zero r.rest.now none in
    record {
      sheets = h.done;
      line = r.line;
      read = h.left ∙ ap (mapped (λ xs. h.done ++ xs)) (frames_none now r.line r.rest.now none ∙ ap (got [] r.line) end) ∙ ap (λ xs. got xs r.line []) (append-nil h.done);
      each = h.each;
      all = h.all;
      many = h.many;
      last = h.last;
    }
