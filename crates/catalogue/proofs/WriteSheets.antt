-- Frames and catalogues, from what is laid of them one after the other. Assumes nothing.
use mathlib.Core.Path.{◌≡◌, refl, sym, ap, ◌∙◌, subst}
use mathlib.Core.List.{List, [], ◌∷◌, ◌++◌, map}
use Prim.Native.Nat.{ℕ, ◌+◌, ◌-◌, ◌*◌, ◌≤◌, ◌<◌}
use native.Mathlib.Nat.{sub-zero}
use native.Mathlib.Numerals.{add-one}
use native.Mathlib.Omega.{arith}
use borrow.Author.Tests.{eq-eqb, ne_eqb}
use lib.ListN.{length, get_or, drop, length-map, drop_of_length-le}
use lib.Seq.{drop-cons}
use Rattle.bits.specs.Language.{from}
use Rattle.bits.specs.Laws.{length_from}
use Rattle.oamd.specs.declared.ReadAnswer.{ReadAnswer}
use Rattle.oamd.specs.Tables.{record_stride, room_bytes, most_trim}
use Rattle.oamd.specs.Answer.{Outcome}
use Rattle.oamd.specs.Batch.{entry}
use Rattle.roundtrip.specs.Entries.{records_of, EntryInRange}
use Rattle.text.specs.Laying.{Laid}
use Rattle.text.proofs.LayLaws.{laid-bind, laid_is}
use Rattle.catalogue.specs.declared.Latest.{Latest}
use Rattle.catalogue.specs.Sheets.{Change, Sheet, rows_behind, rows_after, change_of, sheet_of, sheet_at, sheets_of}
use Rattle.catalogue.specs.Text.{refused_line, frame_line, update_lines, sheet_text, catalogue}
use Rattle.catalogue.specs.Parts.{front}
use Rattle.catalogue.specs.Reads.{in-range, records-within, sheet-alike}
use Rattle.catalogue.specs.Writes.{Within, Stepped, changes_from, sheet_by, Matched}
use Rattle.catalogue.proofs.WriteFrames.{Going, going_step, going_end}

-- ---- a frame

module _ (frame : ℕ) (a : ReadAnswer) (records : List ℕ) where
  abbrev these : List Change
  these = changes_from a.programme.objects a.timing.blocks records a.timing.updates 0

  updates-are : (sheet_by frame a records).updates ≡ these
  unfolding sheet_of
  updates-are = simp sub-zero

  many : length these ≡ a.timing.blocks
  many = length-map (from 0 (a.timing.blocks - 0)) _ ∙ length_from 0 (a.timing.blocks - 0) ∙ sub-zero a.timing.blocks

  pub sheet-refused : {text text' : List ℕ} {at to : ℕ} (latest : Latest) → (a.refusal ≡ 0 → ⊥) → a.timing.blocks ≡ 0
      → Laid text text' at to (refused_line frame a.refusal)
      → Stepped text text' at to latest (sheet_text (front latest) (sheet_by frame a records)) (rows_behind (front latest) (sheet_by frame a records).updates)
  unfolding sheet_of sheet_text rows_behind from
  sheet-refused latest h none laid =
      let e = ne_eqb a.refusal 0 h in
      let this : ℕ → Change = change_of a.programme.objects a.timing.blocks records a.timing.updates in
      record {
        laid = laid_is (rw e refl) laid;
        rows_are = ap (λ (n : ℕ). rows_behind (front latest) (map this (from 0 n))) (sym none);
      }

  pub sheet-accepted : {text text' text'' : List ℕ} {at to next : ℕ} {latest : Latest} (first : List ℕ) → a.refusal ≡ 0
      → Laid text text' at to (frame_line frame a.programme.objects a.timing.blocks)
      → Stepped text' text'' to next latest (update_lines a.programme.objects first these) (rows_behind first these)
      → Stepped text text'' at next latest (sheet_text first (sheet_by frame a records)) (rows_behind first (sheet_by frame a records).updates)
  unfolding sheet_of sheet_text
  sheet-accepted first h laid s =
      let objects : ℕ = a.programme.objects in
      let text_is : frame_line frame objects a.timing.blocks ++ update_lines objects first these ≡ frame_line frame objects (length these) ++ update_lines objects first these =
      ap (λ (n : ℕ). frame_line frame objects n ++ update_lines objects first these) (sym many) in
      record {
        laid =
            laid_is (text_is ∙ ap (λ (us : List Change). frame_line frame objects (length us) ++ update_lines objects first us) (sym updates-are)
            ∙ sym (rw (eq-eqb a.refusal 0 h) refl)) (laid-bind laid s.laid);
        rows_are = s.rows_are ∙ ap (rows_behind first) (sym updates-are);
      }

-- ---- an entry that was read

module _ (frame : ℕ) (store : List ℕ) (start len : ℕ) (records trim : List ℕ) (room : length records ≡ room_bytes) (trim-room : length trim ≡ most_trim)
    (a : ReadAnswer) (b t : List ℕ) (e : ◌≡◌ {A = Outcome} (record { answer = a; buffer = b; trim = t }) (entry frame store start len records trim)) where
  pub sheet_is : sheet_by frame a b ≡ sheet_at store start len frame
  unfolding sheet_of
  sheet_is = ap (sheet_of frame) e ∙ sheet-alike frame store start len records trim room trim-room

  here : EntryInRange (record { answer = a; buffer = b; trim = t })
  here = subst EntryInRange (sym e) (in-range frame store start len records trim room trim-room)

  pub read-within : length b ≡ room_bytes → Within a.programme.objects a.timing.blocks b
  read-within long = record {
    few = here.objects;
    turns = here.blocks;
    bytes = subst (λ (o : Outcome). record_stride * records_of o ≤ room_bytes) (sym e) (records-within frame store start len records trim room trim-room);
    long = long;
  }

  pub read-nothing : (a.refusal ≡ 0 → ⊥) → a.timing.blocks ≡ 0
  read-nothing h = (here.nothing h).1

-- ---- the entries, from the rows `first` on

module _ (store starts lengths frames first : List ℕ) where
  -- those from entry i on
  abbrev left : ℕ → List Sheet
  left i = sheets_of store (drop i starts) (drop i lengths) (drop i frames)

  -- the invariant, before entry i
  abbrev pub Cataloguing : List ℕ → List ℕ → ℕ → ℕ → Latest → ℕ → Type 0
  Cataloguing text₀ text at₀ at latest i = Going text₀ text at₀ at (catalogue first (left 0)) (rows_after first (left 0))
      (catalogue (front latest) (left i)) (rows_after (front latest) (left i))

  left_more : Matched starts lengths frames → (i : ℕ) → i < length starts
      → left i ≡ sheet_at store (get_or starts i 0) (get_or lengths i 0) (get_or frames i 0) ∷ left (i + 1)
  unfolding sheets_of
  left_more same i h = rw (drop-cons starts i 0 h, drop-cons lengths i 0 (omega arith), drop-cons frames i 0 (omega arith), add-one) refl

  left_none : (i : ℕ) → length starts ≤ i → left i ≡ []
  unfolding sheets_of
  left_none i h = rw (drop_of_length-le starts h) refl

  module _ {text₀ text : List ℕ} {at₀ at : ℕ} (latest : Latest) (i : ℕ) (g : Cataloguing text₀ text at₀ at latest i) where
    pub cataloguing_more : {text' : List ℕ} {next : ℕ} {then : Latest} (x : Sheet) → Matched starts lengths frames → i < length starts
        → x ≡ sheet_at store (get_or starts i 0) (get_or lengths i 0) (get_or frames i 0)
        → Stepped text text' at next then (sheet_text (front latest) x) (rows_behind (front latest) x.updates)
        → Cataloguing text₀ text' at₀ next then (i + 1)
    unfolding catalogue rows_after
    cataloguing_more {text'} {next} {then} x same h e s =
        let more : left i ≡ x ∷ left (i + 1) = left_more same i h ∙ ap (λ (y : Sheet). y ∷ left (i + 1)) (sym e) in
        going_step (catalogue (front then) (left (i + 1))) (rows_after (front then) (left (i + 1)))
        (ap (catalogue (front latest)) more ∙ rw s.rows_are refl)
        (ap (rows_after (front latest)) more ∙ rw s.rows_are refl) g s

    pub cataloguing_end : length starts ≤ i → Stepped text₀ text at₀ at latest (catalogue first (left 0)) (rows_after first (left 0))
    unfolding catalogue rows_after
    cataloguing_end h = going_end (ap (catalogue (front latest)) (left_none i h)) (ap (rows_after (front latest)) (left_none i h)) g
