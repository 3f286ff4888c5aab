-- The calls that read a catalogue back: from the frames that were read to what is answered of a text. Assumes nothing.
use mathlib.Core.Path.{◌≡◌, refl, sym, ap, ◌∙◌}
use mathlib.Core.List.{List}
use Prim.Native.Nat.{ℕ, ◌<◌, ◌≤◌}
use native.Mathlib.Omega.{arith}
use borrow.Author.Tests.{le-leb, lt-leb}
use lib.ListN.{length}
use Rattle.bits.specs.declared.Refusal.TheVariants.{Room, BadLine}
use Rattle.bits.specs.Refusals.{number_of}
use Rattle.oamd.specs.Record.{onto}
use Rattle.text.specs.Lines.{texts}
use Rattle.text.specs.Laying.{last_position}
use Rattle.catalogue.specs.declared.BackAnswer.{BackAnswer}
use Rattle.catalogue.specs.declared.Tally.{Tally}
use Rattle.catalogue.specs.Sheets.{Sheet, rows_after}
use Rattle.catalogue.specs.Scan.{bad}
use Rattle.catalogue.specs.Back.{back}
use Rattle.catalogue.specs.Answer.{before_bytes, rows_in, rows_laid, Backed, back_answer, line_bytes, records_bytes, housed, backed, reading_back}
use Rattle.catalogue.specs.BackCalls.{Readable, Lent}
use Rattle.catalogue.proofs.WriteWhole.{sets-onto}

-- ---- the answers

abbrev pub gives : BackAnswer → List ℕ → List ℕ → List ℕ → Backed
gives a before lines records = record { answer = a; before = before; lines = lines; records = records }

module _ (text before lines records : List ℕ) where
  pub no-before : length before < before_bytes → gives (back_answer (number_of Room) before_bytes 0 0) before lines records ≡ reading_back text before lines records
  unfolding reading_back
  no-before h = sym (rw (lt-leb before_bytes (length before) h) refl)

  module _ (long : before_bytes ≤ length before) where
    backed_is : reading_back text before lines records ≡ backed before lines records (back (rows_in before) text)
    unfolding reading_back
    backed_is = rw (le-leb before_bytes (length before) long)

    pub bad-line : (n : ℕ) → back (rows_in before) text ≡ bad n → gives (back_answer (number_of BadLine) n 0 0) before lines records ≡ reading_back text before lines records
    bad-line n e = sym (backed_is ∙ ap (backed before lines records) e)

    module _ (r : Tally) (readable : Readable text before r) where
      abbrev xs : List Sheet
      xs = readable.sheets

      housed_is : reading_back text before lines records ≡ housed before lines records xs
      housed_is = backed_is ∙ ap (backed before lines records) readable.read

      pub no-records : length records < r.records → gives (back_answer (number_of Room) r.records 0 0) before lines records ≡ reading_back text before lines records
      unfolding housed
      no-records h =
          let needed = readable.all in
          ap (λ (k : ℕ). gives (back_answer (number_of Room) k 0 0) before lines records) needed
          ∙ sym (housed_is ∙ rw (lt-leb (length (texts records_bytes xs)) (length records) (omega arith)) refl)

      -- a buffer is always shorter than the last position, so that what fits is not capped
      module _ (fits : r.records ≤ length records) (short : length records < last_position) where
        all_fit : length (texts records_bytes xs) ≤ length records
        all_fit = omega (arith, readable.all)

        pub no_lines : length lines < r.lines → gives (back_answer (number_of Room) r.lines 0 0) before lines records ≡ reading_back text before lines records
        unfolding housed
        no_lines h =
            let needed = readable.each in
            ap (λ (k : ℕ). gives (back_answer (number_of Room) k 0 0) before lines records) needed
            ∙ sym (housed_is ∙ rw (le-leb (length (texts records_bytes xs)) (length records) all_fit, lt-leb (length (texts line_bytes xs)) (length lines) (omega arith)) refl)

        pub all_laid : {before' lines' records' : List ℕ} → r.lines ≤ length lines → length lines < last_position → Lent text before before' lines lines' records records'
            → gives (back_answer 0 0 r.frames r.records) before' lines' records' ≡ reading_back text before lines records
        unfolding housed
        all_laid {before'} {lines'} {records'} h i laid =
            let each-fit : length (texts line_bytes xs) ≤ length lines = omega (arith, readable.each) in
            let bytes : r.records ≡ length (texts records_bytes xs) = omega (arith, readable.all, all_fit) in
            let many = readable.many in
            let front = laid.front xs readable.line readable.read in
            let lines_are : lines' ≡ onto (texts line_bytes xs) lines = laid.each xs readable.line readable.read ∙ sets-onto (texts line_bytes xs) lines each-fit in
            let records-are : records' ≡ onto (texts records_bytes xs) records = laid.all xs readable.line readable.read ∙ sets-onto (texts records_bytes xs) records all_fit in
            let is : gives (back_answer 0 0 r.frames r.records) before' lines' records' ≡ gives (back_answer 0 0 (length xs) (length (texts records_bytes xs)))
            (onto (rows_laid (rows_after (rows_in before) xs)) before) (onto (texts line_bytes xs) lines) (onto (texts records_bytes xs) records) = cc in
            is ∙ sym (housed_is ∙ rw (le-leb (length (texts records_bytes xs)) (length records) all_fit, le-leb (length (texts line_bytes xs)) (length lines) each-fit) refl)
