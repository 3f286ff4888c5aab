-- There and back, over the calls: what is read back of the text that was written is what single reads of the entries give, line by line and byte for byte.
use Rattle.std.specs.Prelude.{◌≡◌, drop}
use Rattle.std.proofs.Math.Path.{refl, sym, ap, ap₂}
use Rattle.std.proofs.Common.{◌∙◌, arith}
use mathlib.Core.List.{List, [], ◌∷◌, ◌++◌}
use Prim.Native.Nat.{ℕ, suc, ◌*◌, ◌≤◌}
use Rattle.std.proofs.Math.ListN.{length, take}
use Rattle.std.proofs.Math.Seq.{take-append_seam}
use Rattle.bits.specs.Terms.{Every}
use Rattle.oamd.specs.Tables.{record_stride, room_bytes, most_trim}
use Rattle.oamd.specs.LeastFirst.{least_first}
use Rattle.oamd.specs.Record.{onto}
use Rattle.oamd.specs.Answer.{Outcome}
use Rattle.oamd.specs.Batch.{each_bytes, update_bytes_of, entry}
use Rattle.roundtrip.specs.Entries.{records_of}
use Rattle.text.specs.Lines.{texts}
use Rattle.catalogue.specs.Fields.{most_frame}
use Rattle.catalogue.specs.Sheets.{zeros, sheets_of}
use Rattle.catalogue.specs.Text.{catalogue}
use Rattle.catalogue.specs.Answer.{rows_in, Catalogued}
use Rattle.catalogue.specs.Answer.{cataloguing, Backed, back_answer, line_bytes, records_bytes, reading_back}
use Rattle.catalogue.specs.When.{Writes, fits, writes_when, when_fits, back_fits}
use Rattle.catalogue.specs.ReadsFit.{sheets-fit}
use Rattle.catalogue.specs.Records.{records_same, line_same}
use Rattle.catalogue.specs.ReadsBack.{reads-back}

-- ---- what single reads give

-- an entry read by itself, with its frame and room enough
abbrev pub alone : List ℕ → ℕ → ℕ → ℕ → Outcome
alone store start len frame = entry frame store start len (zeros room_bytes) (zeros most_trim)

-- each of them, in list order, with its frame
pub record Single : Type 0 where
  pub frame : ℕ
  pub outcome : Outcome

unfoldable pub singles : List ℕ → List ℕ → List ℕ → List ℕ → List Single
singles store [] lengths frames = []
singles store (start ∷ starts) [] frames = []
singles store (start ∷ starts) (len ∷ lengths) [] = []
singles store (start ∷ starts) (len ∷ lengths) (frame ∷ frames) =
    record { frame = frame; outcome = alone store start len frame } ∷ singles store starts lengths frames

-- what the answer says: the frame's number, the refusal, the objects, the blocks, and the start and the ramp of each
abbrev pub answer_line : Single → List ℕ
answer_line x =
    let a = x.outcome.answer in
    least_first 4 x.frame ++ ((a.refusal ∷ a.programme.objects ∷ a.timing.blocks ∷ 0 ∷ []) ++ each_bytes update_bytes_of a.timing.updates)

-- the records, as the read leaves them in its buffer
abbrev pub answer_records : Single → List ℕ
answer_records x = take (record_stride * records_of x.outcome) x.outcome.buffer

module _ (store : List ℕ) where
  records-of : (starts lengths frames : List ℕ) → texts records_bytes (sheets_of store starts lengths frames) ≡ texts answer_records (singles store starts lengths frames)
  unfolding texts sheets_of singles
  records-of [] lengths frames = refl
  records-of (start ∷ starts) [] frames = refl
  records-of (start ∷ starts) (len ∷ lengths) [] = refl
  records-of (start ∷ starts) (len ∷ lengths) (frame ∷ frames) =
      ap₂ (λ (a b : List ℕ). a ++ b) (records_same store start len frame) (records-of starts lengths frames)

  lines_of : (starts lengths frames : List ℕ) → texts line_bytes (sheets_of store starts lengths frames) ≡ texts answer_line (singles store starts lengths frames)
  unfolding texts sheets_of singles
  lines_of [] lengths frames = refl
  lines_of (start ∷ starts) [] frames = refl
  lines_of (start ∷ starts) (len ∷ lengths) [] = refl
  lines_of (start ∷ starts) (len ∷ lengths) (frame ∷ frames) =
      ap₂ (λ (a b : List ℕ). a ++ b) (line_same store start len frame) (lines_of starts lengths frames)

  count_of : (starts lengths frames : List ℕ) → length lengths ≡ length starts → length frames ≡ length starts → length (sheets_of store starts lengths frames) ≡ length starts
  unfolding sheets_of
  count_of [] lengths frames e f = refl
  count_of (start ∷ starts) [] frames e f = absurd (omega arith)
  count_of (start ∷ starts) (len ∷ lengths) [] e f = absurd (omega arith)
  count_of (start ∷ starts) (len ∷ lengths) (frame ∷ frames) e f = ap suc (count_of starts lengths frames (omega arith) (omega arith))

-- ---- the statement

-- The text of an accepted call, read back with the update before that the call began with, and with room for a line of each entry and for all their records.
pub record Back (store starts lengths frames before : List ℕ) (c : Catalogued) (lines records : List ℕ) (b : Backed) : Type 0 where
  pub answer : b.answer ≡ back_answer 0 0 (length starts) (length (texts answer_records (singles store starts lengths frames)))
  pub lines_are : b.lines ≡ onto (texts answer_line (singles store starts lengths frames)) lines
  pub records-are : b.records ≡ onto (texts answer_records (singles store starts lengths frames)) records
  pub same-before : b.before ≡ c.before

module _ (store starts lengths frames before text lines records : List ℕ) where
  abbrev made : Catalogued
  made = cataloguing store starts lengths frames before text

  pub round_trip : Every (λ f. f ≤ most_frame) frames → made.answer.refusal ≡ 0
      → length (texts answer_records (singles store starts lengths frames)) ≤ length records
      → length (texts answer_line (singles store starts lengths frames)) ≤ length lines
      → Back store starts lengths frames before made lines records (reading_back (take made.answer.length made.text) before lines records)
  unfolding onto
  round_trip few z enough enough-lines = go ((writes_when store starts lengths frames before text 0).0 z)
    where
      go : Writes store starts lengths frames before text 0
          → Back store starts lengths frames before made lines records (reading_back (take made.answer.length made.text) before lines records)
      go (fits lists room long) =
          let w = when_fits store starts lengths frames before text lists room long in
          let whole : List ℕ = catalogue (rows_in before) (sheets_of store starts lengths frames) in
          let given : take made.answer.length made.text ≡ whole =
          ap (λ (c : Catalogued). take c.answer.length c.text) w ∙ take-append_seam whole (drop (length whole) text) in
          let back = reads-back (rows_in before) (sheets_of store starts lengths frames) (sheets-fit store starts lengths frames few) in
          let rs = records-of store starts lengths frames in
          let ls = lines_of store starts lengths frames in
          let many = count_of store starts lengths frames lists.each-length lists.each-frame in
          let is = back_fits whole before lines records _ _ _ room back (rw rs enough) (rw ls enough-lines) in
          rw given
          (record {
            answer = ap (λ (b : Backed). b.answer) is ∙ ap₂ (λ (n m : ℕ). back_answer 0 0 n m) many (ap length rs);
            lines_are = ap (λ (b : Backed). b.lines) is ∙ ap (λ (l : List ℕ). onto l lines) ls;
            records-are = ap (λ (b : Backed). b.records) is ∙ ap (λ (l : List ℕ). onto l records) rs;
            same-before = ap (λ (b : Backed). b.before) is ∙ sym (ap (λ (c : Catalogued). c.before) w);
          })
