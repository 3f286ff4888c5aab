-- How long a text can be: a frame takes 338,558 bytes at the most.
use Rattle.std.specs.Prelude.{◌≡◌, refl, Bool, false, not, eqb, leb}
use Rattle.std.proofs.Common.{sym, ⊎_elim, mul-zero, mul-suc, leb-true, eq-eqb, eqb-true}
use Rattle.std.proofs.Math.Bool.{true}
use mathlib.Core.List.{List, [], ◌∷◌, ◌++◌}
use Prim.Native.Nat.{ℕ, zero, suc, ◌+◌, ◌*◌, ◌≤◌, ◌<◌}
use native.Mathlib.Omega.{arith}
use Rattle.std.proofs.Math.ListN.{length, length-append}
use Rattle.bits.specs.Language.{pick, from}
use Rattle.bits.specs.Writes.{only}
use Rattle.bits.specs.Terms.{Every}
use Rattle.oamd.specs.Tables.{most_objects, most_blocks, record_bytes}
use Rattle.form.specs.Lemmas.Tests.{by-test, below}
use Rattle.keys.specs.Names.{refusal_key, objects_key, blocks_key, frame_key, start_key, ramp_key, object_key}
use Rattle.text.specs.Numerals.{decimal}
use Rattle.text.specs.NumeralLaws.{decimal-length}
use Rattle.text.specs.Lines.{texts, comma, newline}
use Rattle.catalogue.specs.Fields.{fields, field_of, most_frame, most_start, most_ramp}
use Rattle.catalogue.specs.Sheets.{Change, Sheet, cell, rows_behind}
use Rattle.catalogue.specs.Text.{pair, refused_line, frame_line, update_line, listed, changes, is_there, entry_line, is_full, entry_lines, update_lines, sheet_text, catalogue}
use Rattle.catalogue.specs.Fit.{FitRows, FitChange, Fit, refused, accepted}

-- ---- sums

-- b of each number from i on
sum_from : (ℕ → ℕ) → ℕ → ℕ → ℕ
sum_from b i zero = 0
sum_from b i (suc n) = b i + sum_from b (suc i) n

texts_most : (f : ℕ → List ℕ) (b : ℕ → ℕ) (i n : ℕ) → ((j : ℕ) → i ≤ j → j < i + n → length (f j) ≤ b j) → length (texts f (from i n)) ≤ sum_from b i n
unfolding texts from sum_from
texts_most f b i zero h = omega arith
texts_most f b i (suc n) h =
    let one = h i (omega arith) (omega arith) in
    let rest = texts_most f b (suc i) n (λ j l m. h j (omega arith) (omega arith)) in
    omega (arith, length-append (f i) (texts f (from (suc i) n)))

sum_same : (m i n : ℕ) → sum_from (λ j. m) i n ≡ m * n
unfolding sum_from
sum_same m i zero = sym (mul-zero m)
sum_same m i (suc n) = let rest = sum_same m (suc i) n in omega (arith, rest, mul-suc m n)

-- ---- an entry

-- the digits of the largest value of a field
abbrev digits_of : ℕ → ℕ
digits_of k = pick (leb (field_of k).most 9) 1 2

-- a comma, the key and the digits
abbrev width_of : ℕ → ℕ
width_of k = 1 + length (field_of k).key + digits_of k

two_digits : (k : ℕ) → k < record_bytes → (field_of k).most ≤ 99
unfolding field_of fields
two_digits k l = leb-true (field_of k).most 99 (below record_bytes (λ k. leb (field_of k).most 99) refl k l)

value_long : (k v : ℕ) → k < record_bytes → v ≤ (field_of k).most → length (decimal v) ≤ digits_of k
value_long k v l h = by-test (leb (field_of k).most 9)
    (λ t. rw t (let m = leb-true (field_of k).most 9 t in decimal-length 1 v (omega arith) (omega arith)))
    (λ t. rw t (let m = two_digits k l in decimal-length 2 v (omega arith) (omega arith)))

only_most : (t : Bool) (l : List ℕ) (n : ℕ) → length l ≤ n → length (only t l) ≤ n
only_most true l n h = h
only_most false l n h = omega arith

entry-width : sum_from width_of 0 record_bytes ≡ 255
unfolding sum_from field_of fields
entry-width = refl

module _ (objects : ℕ) (few : objects ≤ most_objects) where
  changes_most : (full : Bool) (before now : List ℕ) (j : ℕ) → FitRows objects now → j < objects → length (changes full before now j) ≤ 255
  unfolding changes
  changes_most full before now j fit l =
      let all = texts_most (λ k. listed full (cell before j k) (cell now j k) k) width_of 0 record_bytes
      (λ k a b.
      let digits = value_long k (cell now j k) (omega arith) (fit.most j k l (omega arith)) in
      let piece : List ℕ = comma ∷ pair (field_of k).key (cell now j k) in
      let long : length piece ≤ width_of k = omega (arith, length-append (field_of k).key (decimal (cell now j k))) in
      only_most (pick full true (not (eqb (cell before j k) (cell now j k)))) piece (width_of k) long) in
      omega (arith, entry-width)

  entry_most : (full : Bool) (before now : List ℕ) (j : ℕ) → FitRows objects now → j < objects → length (entry_line full before now j) ≤ 266
  unfolding entry_line
  entry_most full before now j fit l =
      let fields = changes full before now j in
      let some = changes_most full before now j fit l in
      let digits = decimal-length 3 j (omega arith) (omega arith) in
      let line : List ℕ = pair object_key j ++ (fields ++ (newline ∷ [])) in
      let long : length line ≤ 266 =
      omega (arith, length-append (pair object_key j) (fields ++ (newline ∷ [])), length-append object_key (decimal j), length-append fields (newline ∷ [])) in
      only_most (is_there fields) line 266 long

  entries_most : (before now : List ℕ) → FitRows objects now → length (entry_lines objects before now) ≤ 266 * 159
  unfolding entry_lines
  entries_most before now fit =
      let all = texts_most (entry_line (is_full objects before) before now) (λ j. 266) 0 objects (λ j a b. entry_most (is_full objects before) before now j fit (omega arith)) in
      omega (arith, sum_same 266 0 objects)

  update_most : (start ramp : ℕ) → start ≤ most_start → ramp ≤ most_ramp → length (update_line start ramp) ≤ 21
  unfolding update_line
  update_most start ramp s r =
      let a = decimal-length 4 start (omega arith) (omega arith) in
      let b = decimal-length 4 ramp (omega arith) (omega arith) in
      omega (
        arith,
        length-append (pair start_key start ++ (comma ∷ pair ramp_key ramp)) (newline ∷ []),
        length-append (pair start_key start) (comma ∷ pair ramp_key ramp),
        length-append start_key (decimal start),
        length-append ramp_key (decimal ramp),
      )

  updates_most : (before : List ℕ) (us : List Change) → Every (FitChange objects) us → length (update_lines objects before us) ≤ (21 + 266 * 159) * length us
  unfolding update_lines
  updates_most before [] fit = omega arith
  updates_most before (u ∷ us) fit =
      let line = update_most u.start u.ramp fit.0.start fit.0.ramp in
      let entries = entries_most before u.rows fit.0.rows in
      let rest = updates_most u.rows us fit.1 in
      omega (
        arith,
        length-append (update_line u.start u.ramp) (entry_lines objects before u.rows ++ update_lines objects u.rows us),
        length-append (entry_lines objects before u.rows) (update_lines objects u.rows us),
      )

-- ---- a frame

-- the text of a frame, at the most
abbrev pub most_frame_text : ℕ
most_frame_text = 338558

frame-line_most : (frame objects blocks : ℕ) → frame ≤ most_frame → objects ≤ most_objects → blocks ≤ most_blocks → length (frame_line frame objects blocks) ≤ 38
unfolding frame_line
frame-line_most frame objects blocks f o b =
    let a = decimal-length 10 frame (omega arith) (omega arith) in
    let c = decimal-length 3 objects (omega arith) (omega arith) in
    let d = decimal-length 1 blocks (omega arith) (omega arith) in
    let rest : List ℕ = pair objects_key objects ++ (comma ∷ pair blocks_key blocks) in
    omega (
      arith,
      length-append (pair frame_key frame ++ (comma ∷ rest)) (newline ∷ []),
      length-append (pair frame_key frame) (comma ∷ rest),
      length-append (pair objects_key objects) (comma ∷ pair blocks_key blocks),
      length-append frame_key (decimal frame),
      length-append objects_key (decimal objects),
      length-append blocks_key (decimal blocks),
    )

refused-line_most : (frame refusal : ℕ) → frame ≤ most_frame → refusal ≤ 12 → length (refused_line frame refusal) ≤ 28
unfolding refused_line
refused-line_most frame refusal f r =
    let a = decimal-length 10 frame (omega arith) (omega arith) in
    let b = decimal-length 2 refusal (omega arith) (omega arith) in
    omega (
      arith,
      length-append (pair frame_key frame ++ (comma ∷ pair refusal_key refusal)) (newline ∷ []),
      length-append (pair frame_key frame) (comma ∷ pair refusal_key refusal),
      length-append frame_key (decimal frame),
      length-append refusal_key (decimal refusal),
    )

pub frame_most : (before : List ℕ) (x : Sheet) → Fit x → length (sheet_text before x) ≤ most_frame_text
unfolding sheet_text
frame_most before x (refused few can is) = by-test (eqb x.refusal 0)
    (λ t. let z = eqb-true x.refusal 0 t in ⊎_elim (λ (k : (1 ≤ x.refusal) × (x.refusal ≤ 8)). absurd (omega (arith, z, k.0))) (λ k. absurd (omega (arith, z, k))) can)
    (λ t.
    let twelve : x.refusal ≤ 12 = ⊎_elim (λ (k : (1 ≤ x.refusal) × (x.refusal ≤ 8)). omega (arith, k.1)) (λ k. omega (arith, k)) can in
    let line = refused-line_most x.frame x.refusal few twelve in
    rw t (omega arith))
frame_most before x (accepted few z some most count all) =
    let line = frame-line_most x.frame x.objects (length x.updates) few most count in
    let rest = updates_most x.objects most before x.updates all in
    rw (eq-eqb x.refusal 0 z)
    (omega (arith, length-append (frame_line x.frame x.objects (length x.updates)) (update_lines x.objects before x.updates)))

-- so a buffer of so many bytes for each frame suffices
pub catalogue_most : (before : List ℕ) (xs : List Sheet) → Every Fit xs → length (catalogue before xs) ≤ most_frame_text * length xs
unfolding catalogue
catalogue_most before [] fit = omega arith
catalogue_most before (x ∷ xs) fit =
    let one = frame_most before x fit.0 in
    let rest = catalogue_most (rows_behind before x.updates) xs fit.1 in
    omega (arith, length-append (sheet_text before x) (catalogue (rows_behind before x.updates) xs))
