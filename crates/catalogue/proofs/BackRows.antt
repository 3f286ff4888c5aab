-- The rows of the update before, in front of an array. Assumes nothing.
use mathlib.Core.Path.{◌≡◌, refl, sym, ap, ◌∙◌}
use mathlib.Core.Bool.{Bool, true, false, not}
use mathlib.Core.List.{List, ◌++◌}
use Prim.Native.Nat.{ℕ, ◌≤◌}
use native.Mathlib.Omega.{arith}
use borrow.Author.Tests.{eq-eqb, ne_eqb}
use lib.ListN.{length, take, replicate, length-replicate}
use lib.Seq.{length-take-le, take-append_seam}
use Rattle.oamd.specs.Tables.{most_objects}
use Rattle.std.specs.Prelude.{Result}
use Rattle.catalogue.specs.declared.BadLine.{BadLine}
use Rattle.catalogue.specs.declared.Latest.{Latest}
use Rattle.catalogue.specs.declared.Objects.{Objects}
use Rattle.catalogue.specs.declared.Reader.{Reader}
use Rattle.catalogue.specs.Sheets.{Change, rows_bytes, zeros}
use Rattle.catalogue.specs.Text.{is_full}
use Rattle.catalogue.specs.Scan.{give, ◌>>=◌}
use Rattle.catalogue.specs.Back.{rows_here, next_object, entries_back}
use Rattle.catalogue.specs.Parts.{rows_of, front, came, runs}
use Rattle.catalogue.proofs.BackRuns.{maps_same, maps-bind, maps_then, came-maps, entries-front}

-- ---- zeros in front

pub cleared : (n : ℕ) (xs ys l : List ℕ) → n ≤ length l → xs ≡ replicate (length (take n l)) 0 → take n (xs ++ ys) ≡ zeros n
unfolding zeros
cleared n xs ys l h e =
    let long = length-take-le n l h in
    let all : length xs ≡ n = ap length e ∙ length-replicate (length (take n l)) 0 ∙ long in
    (rw all at (take-append_seam xs ys)) ∙ e ∙ rw long refl

-- ---- the rows that an update is applied to

module _ (objects : Objects) (rows : Latest) (long : length rows.bytes ≡ rows_bytes most_objects) where
  front_long : length (front rows) ≡ rows_bytes rows.count.n
  front_long = let few = rows.count.few in length-take-le (rows_bytes rows.count.n) rows.bytes (omega arith)

  pub same_count : rows.count.n ≡ objects.n → (false ≡ is_full objects.n (front rows)) × (front rows ≡ rows_here objects.n (front rows))
  unfolding rows_here
  same_count e =
      let is : is_full objects.n (front rows) ≡ false = ap not (eq-eqb (length (front rows)) (rows_bytes objects.n) (omega (arith, front_long))) in
      (sym is, sym (rw is refl))

  pub other-count : (rows.count.n ≡ objects.n → ⊥) → (now : List ℕ) → now ≡ zeros (rows_bytes objects.n)
      → (true ≡ is_full objects.n (front rows)) × (now ≡ rows_here objects.n (front rows))
  unfolding rows_here
  other-count e now f =
      let is : is_full objects.n (front rows) ≡ true = ap not (ne_eqb (length (front rows)) (rows_bytes objects.n) (λ g. e (omega (arith, front_long)))) in
      (sym is, f ∙ sym (rw is))

-- ---- the entries, applied to rows in front of an array

abbrev pub change : ℕ → ℕ → List ℕ → Change
change start ramp rows = record { start = start; ramp = ramp; rows = rows }

pub entries-rows : (start ramp objects : ℕ) (before now : List ℕ) (taken : Latest) (full : Bool) (x : Result (Unit {0}) BadLine) (r r' : Reader)
    → full ≡ is_full objects before → front taken ≡ rows_here objects before → taken.count.n ≡ objects
    → came (λ t. now) x r' ≡ runs r (next_object >>= λ next. entries_back full 0 objects next taken.bytes)
    → came (λ t. change start ramp (rows_of taken.count.n now)) x r'
    ≡ runs r (next_object >>= λ next. entries_back (is_full objects before) 0 objects next (rows_here objects before) >>= λ rows. give (change start ramp rows))
entries-rows start ramp objects before now taken full x r r' e f g h =
    rw (← e, ← f, g)
    (came-maps (λ t. now) x r r'
    (maps-bind (maps_same next_object) (λ next. maps_then (change start ramp) (entries-front (rows_bytes objects) full 0 objects next taken.bytes (omega arith))))
    h)
