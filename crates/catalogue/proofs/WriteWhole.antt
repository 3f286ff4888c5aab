-- The calls that lay a catalogue: the update before, as it is lent, and what is answered of a text. Assumes nothing.
use mathlib.Core.Path.{◌≡◌, refl, sym, ap, ap₂, ◌∙◌, subst}
use mathlib.Core.List.{List, [], ◌∷◌, ◌++◌}
use Prim.Native.Nat.{ℕ, ◌+◌, ◌-◌, ◌*◌, ◌/◌, ◌^◌, ◌≤◌, ◌<◌, min}
use native.Mathlib.Omega.{arith}
use borrow.Author.Tests.{le-leb, lt-leb, eq-eqb, ne_eqb}
use lib.ListN.{length, get_or, take, drop, length-drop}
use lib.Seq.{length-take-le, sets, sets-eq}
use Rattle.bits.specs.declared.Refusal.TheVariants.{Room, Lists, ShortText}
use Rattle.bits.specs.Refusals.{number_of}
use Rattle.oamd.specs.Tables.{most_objects, record_bytes}
use Rattle.oamd.specs.Record.{onto}
use Rattle.text.specs.Laying.{capped, Laid}
use Rattle.text.proofs.LayLaws.{laid-bind}
use Rattle.catalogue.specs.declared.CatalogueAnswer.{CatalogueAnswer}
use Rattle.catalogue.specs.Sheets.{Sheet, rows_bytes, sheets_of}
use Rattle.catalogue.specs.Text.{catalogue}
use Rattle.catalogue.specs.Answer.{before_bytes, rows_in, rows_laid, Catalogued, catalogue_answer, not_catalogued, catalogued, cataloguing}
use Rattle.catalogue.specs.Parts.{rows_of}
use Rattle.catalogue.specs.Writes.{RowsRoom, Matched, Written}
use Rattle.catalogue.proofs.WriteRows.{laid-front}

-- what was laid from a buffer's start on stands in place of its first bytes
pub sets-onto : (l s : List ℕ) → length l ≤ length s → sets s 0 l ≡ onto l s
unfolding onto
sets-onto l s h = sets-eq l s 0 (omega arith) ∙ ap (λ (n : ℕ). l ++ drop n s) (let z : 0 + length l ≡ length l = omega arith in z)

-- ---- the update before

module _ (before : List ℕ) (room : before_bytes ≤ length before) where
  pub taken : {rows rows' : List ℕ} {r : ℕ} (count : ℕ) → RowsRoom rows → count ≡ min (get_or before 0 0) most_objects
      → Laid rows rows' 0 r (take (1 + record_bytes * count - 1) (drop 1 before)) → rows_of count rows' ≡ rows_in before
  unfolding rows_in
  taken {rows} {rows'} {r} count rows-room e laid =
      let n : 1 + record_bytes * count - 1 ≡ rows_bytes count = omega arith in
      let rest = length-drop 1 before in
      let long = length-take-le (rows_bytes count) (drop 1 before) (omega arith) in
      let laid' : Laid rows rows' 0 r (take (rows_bytes count) (drop 1 before)) = subst (λ (m : ℕ). Laid rows rows' 0 r (take m (drop 1 before))) n laid in
      laid-front (take (rows_bytes count) (drop 1 before)) (rows_bytes count) long (omega arith) laid' ∙ ap (λ (m : ℕ). take (rows_bytes m) (drop 1 before)) e

  pub kept : {before' before'' : List ℕ} {p q : ℕ} (count : ℕ) (rows : List ℕ) → count ≤ most_objects → RowsRoom rows → Laid before before' 0 p (count ∷ [])
      → Laid before' before'' p q (rows_of count rows) → before'' ≡ onto (rows_laid (rows_of count rows)) before
  unfolding rows_laid
  kept count rows few rows-room f g =
      let long = length-take-le (rows_bytes count) rows (omega arith) in
      let many : length (rows_of count rows) / record_bytes ≡ count = ap (λ (n : ℕ). n / record_bytes) long ∙ omega arith in
      (laid-bind f g).same ∙ ap (λ (n : ℕ). sets before 0 (n ∷ rows_of count rows)) (sym many) ∙ sets-onto (length (rows_of count rows) / record_bytes ∷ rows_of count rows) before (omega arith)

-- ---- a text, by the room

abbrev pub gives : CatalogueAnswer → List ℕ → List ℕ → Catalogued
gives a before text = record { answer = a; before = before; text = text }

module _ (before text : List ℕ) (xs : List Sheet) (short : length text < 2 ^ 63) (needed : ℕ) (long : needed ≡ capped (length (catalogue (rows_in before) xs))) where
  pub no_room : length text < needed → gives (catalogue_answer (number_of ShortText) needed 0) before text ≡ catalogued before text xs
  unfolding catalogued
  no_room h =
      ap (λ (n : ℕ). gives (catalogue_answer (number_of ShortText) n 0) before text) long
      ∙ sym (rw (lt-leb (length (catalogue (rows_in before) xs)) (length text) (omega arith)) refl)

  pub fits : (text' before' : List ℕ) → needed ≤ length text → Written text text' before before' xs → gives (catalogue_answer 0 0 needed) before' text' ≡ catalogued before text xs
  unfolding catalogued
  fits text' before' h w =
      let whole : List ℕ = catalogue (rows_in before) xs in
      let e : needed ≡ length whole = omega arith in
      let is : text' ≡ onto whole text = w.laid ∙ sets-onto whole text (omega arith) in
      ap (λ (n : ℕ). gives (catalogue_answer 0 0 n) before' text') e ∙ ap₂ (λ (x y : List ℕ). gives (catalogue_answer 0 0 (length whole)) x y) w.kept is
      ∙ sym (rw (le-leb (length whole) (length text) (omega arith)) refl)

-- ---- the lists, and the room for the update before

module _ (store starts lengths frames before text : List ℕ) where
  pub other-lengths : (length lengths ≡ length starts → ⊥) → not_catalogued before text (number_of Lists) (length starts) ≡ cataloguing store starts lengths frames before text
  unfolding cataloguing
  other-lengths h = sym (rw (ne_eqb (length lengths) (length starts) h) refl)

  pub other-frames : length lengths ≡ length starts → (length frames ≡ length starts → ⊥)
      → not_catalogued before text (number_of Lists) (length starts) ≡ cataloguing store starts lengths frames before text
  unfolding cataloguing
  other-frames e h = sym (rw (eq-eqb (length lengths) (length starts) e, ne_eqb (length frames) (length starts) h) refl)

  module _ (m : Matched starts lengths frames) where
    pub no-before : length before < before_bytes → not_catalogued before text (number_of Room) before_bytes ≡ cataloguing store starts lengths frames before text
    unfolding cataloguing
    no-before h =
        sym (rw (eq-eqb (length lengths) (length starts) m.each-length, eq-eqb (length frames) (length starts) m.each-frame, lt-leb before_bytes (length before) h) refl)

    pub matched : before_bytes ≤ length before → catalogued before text (sheets_of store starts lengths frames) ≡ cataloguing store starts lengths frames before text
    unfolding cataloguing
    matched h =
        sym (rw (eq-eqb (length lengths) (length starts) m.each-length, eq-eqb (length frames) (length starts) m.each-frame, le-leb before_bytes (length before) h) refl)
