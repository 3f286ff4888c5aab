-- The rows of an update in an array, and the entries that are laid from two of them. Assumes nothing.
use mathlib.Core.Path.{◌≡◌, refl, sym, ap, ap₂, ◌∙◌}
use mathlib.Core.Bool.{Bool, true, false, not, false≢true}
use mathlib.Core.List.{List}
use Prim.Native.Nat.{ℕ, zero, suc, ◌+◌, ◌*◌, ◌≤◌, ◌<◌}
use native.Mathlib.Omega.{arith}
use borrow.Author.Tests.{eqb-true, eq-eqb, ne_eqb}
use lib.Dec.{eqb}
use lib.ListN.{length, take, drop, length-append, length-drop}
use lib.Seq.{take_at, get_or-take, length-take-le, sets-eq}
use Rattle.bits.specs.Language.{from}
use Rattle.form.specs.Lemmas.Tests.{by-test, by_eq}
use Rattle.oamd.specs.Tables.{most_objects, record_bytes, record_stride}
use Rattle.text.specs.Lines.{texts, texts_for}
use Rattle.text.specs.Laying.{Laid}
use Rattle.catalogue.specs.Sheets.{rows_bytes, cell, block_rows}
use Rattle.catalogue.specs.Text.{listed, changes, entry_line, is_full, entry_lines}
use Rattle.catalogue.specs.Parts.{rows_of}
use Rattle.catalogue.specs.Reads.{texts-agree, record-within}
use Rattle.catalogue.specs.Writes.{RowsRoom, Within}
use Rattle.catalogue.proofs.WriteLines.{listed_at}

-- ---- rows laid in front of an array

-- what was laid from its start on stands in front
pub laid-front : {s t : List ℕ} {r : ℕ} (l : List ℕ) (n : ℕ) → length l ≡ n → n ≤ length s → Laid s t 0 r l → take n t ≡ l
laid-front {s} {t} l n e h laid = ap (take n) (laid.same ∙ sets-eq l s 0 (omega arith)) ∙ take_at l (drop (0 + length l) s) n e

-- texts of one length
texts_long : (f : ℕ → List ℕ) (wide i n : ℕ) → ((j : ℕ) → i ≤ j → j < i + n → length (f j) ≡ wide) → length (texts f (from i n)) ≡ wide * n
unfolding texts from
texts_long f wide i zero h = omega arith
texts_long f wide i (suc n) h =
    length-append (f i) (texts f (from (suc i) n))
    ∙ omega (arith, h i (omega arith) (omega arith), texts_long f wide (suc i) n (λ j l m. h j (omega arith) (omega arith)))

module _ (objects blocks : ℕ) (records : List ℕ) (within : Within objects blocks records) (blk : ℕ) (turn : blk < blocks) where
  pub rows_long : length (block_rows objects blocks records blk) ≡ rows_bytes objects
  rows_long = texts_long (λ j. take record_bytes (drop (record_stride * (j * blocks + blk)) records)) record_bytes 0 objects λ j l m.
      length-take-le record_bytes (drop (record_stride * (j * blocks + blk)) records)
      (omega (arith, record-within objects blocks j blk (omega arith) turn, within.bytes, within.long, length-drop (record_stride * (j * blocks + blk)) records))

-- ---- entries from arrays, and from the rows in front of them

-- a field is listed by its byte, and by the byte before only where not every field is
listed-agree : (full : Bool) (before before' now now' k : ℕ) → (full ≡ false → before ≡ before') → now ≡ now' → listed full before now k ≡ listed full before' now' k
listed-agree true before before' now now' k h e = ap (λ (v : ℕ). listed true before v k) e
listed-agree false before before' now now' k h e = ap₂ (λ (u v : ℕ). listed false u v k) (h refl) e

module _ (full : Bool) (before before' now now' : List ℕ) (j : ℕ) (h : (k : ℕ) → k < record_bytes → full ≡ false → cell before j k ≡ cell before' j k)
    (e : (k : ℕ) → k < record_bytes → cell now j k ≡ cell now' j k) where
  changes-agree : changes full before now j ≡ changes full before' now' j
  unfolding changes
  changes-agree = texts-agree (listed_at full before now j) (listed_at full before' now' j) 0 record_bytes λ k l m.
      listed-agree full (cell before j k) (cell before' j k) (cell now j k) (cell now' j k) k (h k (omega arith)) (e k (omega arith))

  entry-agree : entry_line full before now j ≡ entry_line full before' now' j
  unfolding entry_line
  entry-agree = rw changes-agree refl

-- a cell of an object in front of an array
cell-front : (n : ℕ) (room : List ℕ) (j k : ℕ) → j < n → k < record_bytes → cell room j k ≡ cell (rows_of n room) j k
cell-front n room j k h l = sym (get_or-take (rows_bytes n) room (record_bytes * j + k) 0 (omega arith))

module _ (objects count : ℕ) (before now : List ℕ) (few : objects ≤ most_objects) (counted : count ≤ most_objects) (room : RowsRoom before) where
  full_is : is_full objects (rows_of count before) ≡ not (eqb count objects)
  full_is =
      let long = length-take-le (rows_bytes count) before (omega arith) in
      ap not (by_eq count objects
      (λ e. eq-eqb (length (rows_of count before)) (rows_bytes objects) (omega arith) ∙ sym (eq-eqb count objects e))
      (λ d. ne_eqb (length (rows_of count before)) (rows_bytes objects) (λ e. d (omega arith)) ∙ sym (ne_eqb count objects d)))

  same_count : not (eqb count objects) ≡ false → count ≡ objects
  same_count h = by-test (eqb count objects) (eqb-true count objects) (λ e. absurd (false≢true (sym h ∙ ap not e)))

  pub entries-are : texts_for objects (entry_line (not (eqb count objects)) before now) ≡ entry_lines objects (rows_of count before) (rows_of objects now)
  unfolding entry_lines
  entries-are =
      texts-agree (entry_line (not (eqb count objects)) before now) (entry_line (not (eqb count objects)) (rows_of count before) (rows_of objects now)) 0 objects
      (λ j l m. entry-agree (not (eqb count objects)) before (rows_of count before) now (rows_of objects now) j
      (λ k n f. let e = same_count f in cell-front count before j k (omega arith) n) (λ k n. cell-front objects now j k (omega arith) n))
      ∙ ap (λ (full : Bool). texts_for objects (entry_line full (rows_of count before) (rows_of objects now))) (sym full_is)
