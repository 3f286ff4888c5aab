-- When a call is refused: each number exactly when, at its place, and every lent buffer is as it came.
use Rattle.std.specs.Prelude.{◌≡◌, Bool, true, List, ◌↔◌, ℕ, ◌≤◌, ◌<◌, eqb, length}
use Rattle.std.proofs.Math.Path.{refl}
use Rattle.std.proofs.Common.{sym, ap, ◌∙◌, subst}
use Rattle.std.proofs.Math.Bool.{false}
use Rattle.std.proofs.lemmas.Bool.{false≢true}
use borrow.Author.Tests.{eq-eqb, eqb-true, le-leb, lt-leb}
use Rattle.bits.specs.declared.Refusal.TheVariants.{Room, Lists, BadLine, ShortText}
use Rattle.bits.specs.Refusals.{number_of}
use Rattle.bits.specs.Language.{both}
use Rattle.bits.specs.Steps.{by_order}
use Rattle.oamd.specs.Record.{onto}
use Rattle.form.specs.Lemmas.Tests.{by-test}
use Rattle.text.specs.Lines.{texts}
use Rattle.text.specs.Laying.{capped}
use Rattle.catalogue.specs.Sheets.{Sheet, rows_after, sheets_of}
use Rattle.catalogue.specs.Text.{catalogue}
use Rattle.catalogue.specs.Scan.{Got, got, bad}
use Rattle.catalogue.specs.Back.{back}
use Rattle.catalogue.specs.Writes.{Matched}
use Rattle.catalogue.specs.Answer.{before_bytes, rows_in, rows_laid, Catalogued, catalogue_answer, not_catalogued, catalogued, cataloguing}
use Rattle.catalogue.specs.Answer.{Backed, back_answer, line_bytes, records_bytes, not_backed, housed, reading_back}

-- ---- writing

-- two tests that hold together hold
both_hold : (a b : Bool) → both a b ≡ true → (a ≡ true) × (b ≡ true)
both_hold true b h = (refl, h)
both_hold false b h = absurd (false≢true h)

module _ (store starts lengths frames before text : List ℕ) where
  abbrev call : Catalogued
  call = cataloguing store starts lengths frames before text

  abbrev sheets : List Sheet
  sheets = sheets_of store starts lengths frames

  abbrev whole : List ℕ
  whole = catalogue (rows_in before) sheets

  -- what the answer's refusal is given for; 13 comes first, then 9, for the update before, then 18
  pub data Writes : ℕ → Type 0 where
    unequal : (Matched starts lengths frames → ⊥) → Writes (number_of Lists)
    before-short : Matched starts lengths frames → length before < before_bytes → Writes (number_of Room)
    text-short : Matched starts lengths frames → before_bytes ≤ length before → length text < length whole → Writes (number_of ShortText)
    fits : Matched starts lengths frames → before_bytes ≤ length before → length whole ≤ length text → Writes 0

  abbrev agree : Bool
  agree = both (eqb (length lengths) (length starts)) (eqb (length frames) (length starts))

  agrees : Matched starts lengths frames → agree ≡ true
  agrees l = rw (eq-eqb (length lengths) (length starts) l.each-length) (eq-eqb (length frames) (length starts) l.each-frame)

  listed_by : agree ≡ true → Matched starts lengths frames
  listed_by t =
      let h = both_hold (eqb (length lengths) (length starts)) (eqb (length frames) (length starts)) t in
      record { each-length = eqb-true _ _ h.0; each-frame = eqb-true _ _ h.1 }

  -- each with its place and every buffer as it came; accepted, the text and the last update are the first bytes of theirs
  pub when-unequal : (Matched starts lengths frames → ⊥) → call ≡ not_catalogued before text (number_of Lists) (length starts)
  unfolding cataloguing
  when-unequal other = let f : agree ≡ false = by-test agree (λ t. absurd (other (listed_by t))) (λ f. f) in rw f refl

  pub when-before-short : Matched starts lengths frames → length before < before_bytes → call ≡ not_catalogued before text (number_of Room) before_bytes
  unfolding cataloguing
  when-before-short lists l = rw (agrees lists, lt-leb before_bytes (length before) l) refl

  pub when-text-short : Matched starts lengths frames → before_bytes ≤ length before → length text < length whole
      → call ≡ not_catalogued before text (number_of ShortText) (capped (length whole))
  unfolding cataloguing catalogued
  when-text-short lists room l = rw (agrees lists, le-leb before_bytes (length before) room, lt-leb (length whole) (length text) l) refl

  pub when_fits : Matched starts lengths frames → before_bytes ≤ length before → length whole ≤ length text
      → call ≡ record { answer = catalogue_answer 0 0 (length whole); before = onto (rows_laid (rows_after (rows_in before) sheets)) before; text = onto whole text }
  unfolding cataloguing catalogued
  when_fits lists room l = rw (agrees lists, le-leb before_bytes (length before) room, le-leb (length whole) (length text) l) refl

  number-of : {n : ℕ} → Writes n → call.answer.refusal ≡ n
  number-of (unequal other) = ap (λ (c : Catalogued). c.answer.refusal) (when-unequal other)
  number-of (before-short lists l) = ap (λ (c : Catalogued). c.answer.refusal) (when-before-short lists l)
  number-of (text-short lists room l) = ap (λ (c : Catalogued). c.answer.refusal) (when-text-short lists room l)
  number-of (fits lists room l) = ap (λ (c : Catalogued). c.answer.refusal) (when_fits lists room l)

  some : (n : ℕ) × Writes n
  some = by-test agree
      (λ t. let lists = listed_by t in by_order before_bytes (length before)
      (λ room. by_order (length whole) (length text) (λ l. (0, fits lists room l)) (λ l. (number_of ShortText, text-short lists room l)))
      (λ l. (number_of Room, before-short lists l)))
      (λ f. (number_of Lists, unequal (λ l. false≢true (sym f ∙ agrees l))))

  -- every refusal exactly when
  pub writes_when : (n : ℕ) → (call.answer.refusal ≡ n) ↔ Writes n
  writes_when n = ((λ z. subst Writes (sym (number-of some.1) ∙ z) some.1), number-of)

-- ---- reading back

module _ (text before lines records : List ℕ) where
  abbrev back_call : Backed
  back_call = reading_back text before lines records

  abbrev bytes_of : List Sheet → ℕ
  bytes_of xs = length (texts records_bytes xs)

  abbrev lines_of : List Sheet → ℕ
  lines_of xs = length (texts line_bytes xs)

  -- 9 comes first, for the update before, then 17, then 9, for the records, then for the lines
  pub data Reads : ℕ → Type 0 where
    before-short : length before < before_bytes → Reads (number_of Room)
    bad-line : (k : ℕ) → before_bytes ≤ length before → back (rows_in before) text ≡ bad k → Reads (number_of BadLine)
    records-short : (xs : List Sheet) (n : ℕ) (s : List ℕ) → before_bytes ≤ length before → back (rows_in before) text ≡ got xs n s → length records < bytes_of xs
        → Reads (number_of Room)
    lines-short : (xs : List Sheet) (n : ℕ) (s : List ℕ) → before_bytes ≤ length before → back (rows_in before) text ≡ got xs n s → bytes_of xs ≤ length records
        → length lines < lines_of xs → Reads (number_of Room)
    fits : (xs : List Sheet) (n : ℕ) (s : List ℕ) → before_bytes ≤ length before → back (rows_in before) text ≡ got xs n s → bytes_of xs ≤ length records
        → lines_of xs ≤ length lines → Reads 0

  pub back-before-short : length before < before_bytes → back_call ≡ not_backed before lines records (number_of Room) before_bytes
  unfolding reading_back
  back-before-short l = rw (lt-leb before_bytes (length before) l) refl

  pub back-bad-line : (k : ℕ) → before_bytes ≤ length before → back (rows_in before) text ≡ bad k → back_call ≡ not_backed before lines records (number_of BadLine) k
  unfolding reading_back
  back-bad-line k room e = rw (le-leb before_bytes (length before) room, e) refl

  module _ (xs : List Sheet) (n : ℕ) (s : List ℕ) (room : before_bytes ≤ length before) (e : back (rows_in before) text ≡ got xs n s) where
    pub back-records-short : length records < bytes_of xs → back_call ≡ not_backed before lines records (number_of Room) (capped (bytes_of xs))
    unfolding reading_back housed
    back-records-short l = rw (le-leb before_bytes (length before) room, e, lt-leb (bytes_of xs) (length records) l) refl

    pub back-lines-short : bytes_of xs ≤ length records → length lines < lines_of xs → back_call ≡ not_backed before lines records (number_of Room) (capped (lines_of xs))
    unfolding reading_back housed
    back-lines-short h l = rw (le-leb before_bytes (length before) room, e, le-leb (bytes_of xs) (length records) h, lt-leb (lines_of xs) (length lines) l) refl

    pub back_fits : bytes_of xs ≤ length records → lines_of xs ≤ length lines
        → back_call ≡ record {
          answer = back_answer 0 0 (length xs) (bytes_of xs);
          before = onto (rows_laid (rows_after (rows_in before) xs)) before;
          lines = onto (texts line_bytes xs) lines;
          records = onto (texts records_bytes xs) records;
        }
    unfolding reading_back housed
    back_fits h l = rw (le-leb before_bytes (length before) room, e, le-leb (bytes_of xs) (length records) h, le-leb (lines_of xs) (length lines) l) refl

  back-number : {n : ℕ} → Reads n → back_call.answer.refusal ≡ n
  back-number (before-short l) = ap (λ (b : Backed). b.answer.refusal) (back-before-short l)
  back-number (bad-line k room e) = ap (λ (b : Backed). b.answer.refusal) (back-bad-line k room e)
  back-number (records-short xs n s room e l) = ap (λ (b : Backed). b.answer.refusal) (back-records-short xs n s room e l)
  back-number (lines-short xs n s room e h l) = ap (λ (b : Backed). b.answer.refusal) (back-lines-short xs n s room e h l)
  back-number (fits xs n s room e h l) = ap (λ (b : Backed). b.answer.refusal) (back_fits xs n s room e h l)

  by-text : before_bytes ≤ length before → (g : Got (List Sheet)) → back (rows_in before) text ≡ g → (n : ℕ) × Reads n
  by-text room (bad k) e = (number_of BadLine, bad-line k room e)
  by-text room (got xs n s) e = by_order (bytes_of xs) (length records)
      (λ h. by_order (lines_of xs) (length lines) (λ l. (0, fits xs n s room e h l)) (λ l. (number_of Room, lines-short xs n s room e h l)))
      (λ l. (number_of Room, records-short xs n s room e l))

  back_some : (n : ℕ) × Reads n
  back_some = by_order before_bytes (length before) (λ room. by-text room (back (rows_in before) text) refl) (λ l. (number_of Room, before-short l))

  pub reads_when : (n : ℕ) → (back_call.answer.refusal ≡ n) ↔ Reads n
  reads_when n = ((λ z. subst Reads (sym (back-number back_some.1) ∙ z) back_some.1), back-number)
