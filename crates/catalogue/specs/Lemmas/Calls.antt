-- The accepted calls: what each has, and what it comes to.
use Rattle.std.specs.Prelude.{◌≡◌, List, ℕ, ◌≤◌, length}
use Rattle.std.proofs.Common.{sym, ap, ◌∙◌}
use Rattle.bits.specs.declared.Refusal.TheVariants.{BadLine}
use Rattle.bits.specs.Refusals.{number_of}
use Rattle.oamd.specs.Record.{onto}
use Rattle.text.specs.Lines.{texts}
use Rattle.catalogue.specs.Sheets.{Sheet, rows_after, sheets_of}
use Rattle.catalogue.specs.Text.{catalogue}
use Rattle.catalogue.specs.Scan.{got, bad}
use Rattle.catalogue.specs.Back.{back}
use Rattle.catalogue.specs.Answer.{before_bytes, rows_in, rows_laid, Catalogued, catalogue_answer, cataloguing, Backed, back_answer, line_bytes, records_bytes, reading_back}
use Rattle.catalogue.specs.Writes.{Matched}
use Rattle.catalogue.specs.When.{Writes, Reads, fits, bad-line, writes_when, reads_when, back-bad-line}

-- what a call that met these sheets leaves as the update before
abbrev pub left : List ℕ → List Sheet → List ℕ
left before xs = onto (rows_laid (rows_after (rows_in before) xs)) before

-- ---- writing

abbrev pub written : List ℕ → List ℕ → List Sheet → Catalogued
written before text xs =
    let whole = catalogue (rows_in before) xs in
    record { answer = catalogue_answer 0 0 (length whole); before = left before xs; text = onto whole text }

pub record Written (store starts lengths frames before text : List ℕ) : Type 0 where
  pub matched : Matched starts lengths frames
  pub before-room : before_bytes ≤ length before
  pub text-room : length (catalogue (rows_in before) (sheets_of store starts lengths frames)) ≤ length text

pub written_of : (store starts lengths frames before text : List ℕ) → (cataloguing store starts lengths frames before text).answer.refusal ≡ 0
    → Written store starts lengths frames before text
written_of store starts lengths frames before text h = go ((writes_when store starts lengths frames before text 0).0 h)
  where
    go : Writes store starts lengths frames before text 0 → Written store starts lengths frames before text
    go (fits lists room long) = record { matched = lists; before-room = room; text-room = long }

-- ---- reading

abbrev pub read : List ℕ → List ℕ → List ℕ → List Sheet → Backed
read before lines records xs = record {
  answer = back_answer 0 0 (length xs) (length (texts records_bytes xs));
  before = left before xs;
  lines = onto (texts line_bytes xs) lines;
  records = onto (texts records_bytes xs) records;
}

pub record Read (text before lines records : List ℕ) : Type 0 where
  pub sheets : List Sheet
  pub line : ℕ
  pub rest : List ℕ
  pub sheets-are : back (rows_in before) text ≡ got sheets line rest
  pub before-room : before_bytes ≤ length before
  pub records-room : length (texts records_bytes sheets) ≤ length records
  pub lines-room : length (texts line_bytes sheets) ≤ length lines

module _ (text before lines records : List ℕ) where
  pub read_of : (reading_back text before lines records).answer.refusal ≡ 0 → Read text before lines records
  read_of h = go ((reads_when text before lines records 0).0 h)
    where
      go : Reads text before lines records 0 → Read text before lines records
      go (fits xs n s room e h l) = record { sheets = xs; line = n; rest = s; sheets-are = e; before-room = room; records-room = h; lines-room = l }

  -- and one that is refused for a line
  pub bad_of : (reading_back text before lines records).answer.refusal ≡ number_of BadLine → back (rows_in before) text ≡ bad (reading_back text before lines records).answer.place
  bad_of h = go ((reads_when text before lines records (number_of BadLine)).0 h)
    where
      go : Reads text before lines records (number_of BadLine) → back (rows_in before) text ≡ bad (reading_back text before lines records).answer.place
      go (bad-line k room e) = e ∙ ap (λ (b : Backed). bad b.answer.place) (sym (back-bad-line text before lines records k room e))
