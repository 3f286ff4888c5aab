-- An update, and the updates of a frame, from what is laid of them one after the other. Assumes nothing.
use mathlib.Core.Path.{◌≡◌, refl, sym, ap, ◌∙◌}
use mathlib.Core.Bool.{not}
use mathlib.Core.List.{List, [], ◌∷◌, ◌++◌, map, append_assoc}
use Prim.Native.Nat.{ℕ, suc, ◌+◌, ◌-◌, ◌≤◌, ◌<◌}
use native.Mathlib.Numerals.{add-one}
use native.Mathlib.Omega.{arith}
use lib.Dec.{eqb}
use lib.ListN.{length}
use lib.Seq.{length-take-le}
use Rattle.bits.specs.Language.{from}
use Rattle.oamd.specs.declared.Update.{Update}
use Rattle.text.specs.Lines.{texts_for}
use Rattle.text.specs.Laying.{last_position, Laid}
use Rattle.text.proofs.LayLaws.{laid_is, laid-length, Rest, rest_start, rest_step, rest_end}
use Rattle.catalogue.specs.declared.Latest.{Latest}
use Rattle.catalogue.specs.declared.Objects.{Objects}
use Rattle.catalogue.specs.Sheets.{Change, rows_bytes, rows_behind, block_rows, change_of}
use Rattle.catalogue.specs.Text.{update_line, entry_line, entry_lines, update_lines}
use Rattle.catalogue.specs.Parts.{rows_of, front}
use Rattle.catalogue.specs.Writes.{RowsRoom, Within, Stepped, update_text, change_by, changes_from}
use Rattle.catalogue.proofs.WriteRows.{laid-front, rows_long, entries-are}

-- ---- an update

module _ (objects blocks : ℕ) (records : List ℕ) (within : Within objects blocks records) (blk : ℕ) (turn : blk < blocks) where
  pub update-stepped : {text text' empty rows bytes : List ℕ} {at to p q : ℕ} (u : Update) (latest : Latest) (now : Objects) → now.n ≡ objects → RowsRoom latest.bytes → RowsRoom empty
      → Laid empty rows 0 p (block_rows objects blocks records blk)
      → Laid text text' at to (update_line u.start.0 u.ramp.0 ++ texts_for objects (entry_line (not (eqb latest.count.n objects)) latest.bytes rows))
      → Laid latest.bytes bytes 0 q (rows_of objects rows)
      → Stepped text text' at to (record { count = now; bytes = bytes }) (update_text objects (front latest) (change_by u (block_rows objects blocks records blk)))
      (block_rows objects blocks records blk)
  update-stepped {empty = empty} {rows = rows} {bytes = bytes} u latest now same whole room gathered laid copied =
      let few = within.few in
      let counted = latest.count.few in
      let are : rows_of objects rows ≡ block_rows objects blocks records blk =
      laid-front (block_rows objects blocks records blk) (rows_bytes objects) (rows_long objects blocks records within blk turn) (omega arith) gathered in
      let long = laid-length gathered in
      let some : length (rows_of objects rows) ≡ rows_bytes objects = length-take-le (rows_bytes objects) rows (omega arith) in
      let line : List ℕ = update_line u.start.0 u.ramp.0 in
      record {
        laid =
            laid_is (ap (λ (l : List ℕ). line ++ l) (entries-are objects latest.count.n latest.bytes rows few counted whole
            ∙ ap (λ (l : List ℕ). entry_lines objects (front latest) l) are)) laid;
        rows_are = ap (λ (n : ℕ). rows_of n bytes) same ∙ laid-front (rows_of objects rows) (rows_bytes objects) some (omega (arith, whole)) copied ∙ are;
      }

-- ---- one after the other

-- a loop's invariant: whoever lays m from here, behind which the rows are `now`, has laid l from the start, behind which they are `rows`
pub record Going (text₀ text : List ℕ) (at₀ at : ℕ) (l rows m now : List ℕ) : Type 0 where
  pub rest : Rest text₀ text at₀ at l m
  pub ends : rows ≡ now

pub going_start : {text l rows m now : List ℕ} {at : ℕ} → length text ≤ last_position → at ≤ last_position → m ≡ l → rows ≡ now
    → Going text text at at l rows m now
going_start h j e f = record { rest = rest_start e h j; ends = f }

pub going_step : {text₀ text text' l rows m now a rows' : List ℕ} {at₀ at next : ℕ} {latest : Latest} (n then : List ℕ) → m ≡ a ++ n → now ≡ then
    → Going text₀ text at₀ at l rows m now → Stepped text text' at next latest a rows' → Going text₀ text' at₀ next l rows n then
going_step {a = a} n then e f g s = record { rest = rest_step a n e g.rest s.laid; ends = g.ends ∙ f }

pub going_end : {text₀ text l rows m now : List ℕ} {at₀ at : ℕ} {latest : Latest} → m ≡ [] → now ≡ front latest
    → Going text₀ text at₀ at l rows m now → Stepped text₀ text at₀ at latest l rows
going_end e f g = record { laid = rest_end e g.rest; rows_are = sym (g.ends ∙ f) }

-- ---- the updates of a frame

from_more : (n i : ℕ) → i < n → from i (n - i) ≡ i ∷ from (i + 1) (n - (i + 1))
unfolding from
from_more n i h = ap (from i) (let e : n - i ≡ suc (n - (i + 1)) = omega arith in e) ∙ rw add-one

from_none : (n i : ℕ) → n ≤ i → from i (n - i) ≡ []
unfolding from
from_none n i h = ap (from i) (let e : n - i ≡ 0 = omega arith in e)

-- from the rows `first` on
module _ (objects blocks : ℕ) (records : List ℕ) (updates : List Update) (first : List ℕ) where
  abbrev these : ℕ → List Change
  these blk = changes_from objects blocks records updates blk

  abbrev this : ℕ → Change
  this blk = change_of objects blocks records updates blk

  -- the invariant, before block blk
  abbrev pub Updating : List ℕ → List ℕ → ℕ → ℕ → Latest → ℕ → Type 0
  Updating text₀ text at₀ at latest blk = Going text₀ text at₀ at (update_lines objects first (these 0)) (rows_behind first (these 0))
      (update_lines objects (front latest) (these blk)) (rows_behind (front latest) (these blk))

  module _ {text₀ text : List ℕ} {at₀ at : ℕ} (latest : Latest) (blk : ℕ) (g : Updating text₀ text at₀ at latest blk) where
    pub updating_more : {text' : List ℕ} {next : ℕ} {then : Latest} → blk < blocks
        → Stepped text text' at next then (update_text objects (front latest) (this blk)) (this blk).rows
        → Updating text₀ text' at₀ next then (blk + 1)
    unfolding update_lines rows_behind
    updating_more {text'} {next} {then} h s =
        let more : these blk ≡ this blk ∷ these (blk + 1) = ap (map this) (from_more blocks blk h) in
        let u = this blk in
        let entries : List ℕ = entry_lines objects (front latest) u.rows in
        going_step (update_lines objects (front then) (these (blk + 1))) (rows_behind (front then) (these (blk + 1)))
        (ap (update_lines objects (front latest)) more ∙ rw s.rows_are (sym (append_assoc (update_line u.start u.ramp) entries (update_lines objects u.rows (these (blk + 1))))))
        (ap (rows_behind (front latest)) more ∙ rw s.rows_are refl) g s

    pub updating_end : blocks ≤ blk → Stepped text₀ text at₀ at latest (update_lines objects first (these 0)) (rows_behind first (these 0))
    unfolding update_lines rows_behind
    updating_end h =
        let none : these blk ≡ [] = ap (map this) (from_none blocks blk h) in
        going_end (ap (update_lines objects (front latest)) none) (ap (rows_behind (front latest)) none) g
