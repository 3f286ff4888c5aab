-- The update before, carried from call to call: what is laid of it is what the next call takes.
use Rattle.std.specs.Prelude.{◌≡◌, List, [], ◌∷◌, ℕ, suc, ◌/◌, ◌≤◌, min, length, get_or, drop}
use Rattle.std.proofs.Common.{sym, ap, subst, arith, length-append, length-drop, take_at, length-take-le}
use Rattle.bits.specs.Terms.{Every}
use Rattle.oamd.specs.Tables.{most_objects, record_bytes}
use Rattle.oamd.specs.Record.{onto}
use Rattle.catalogue.specs.Sheets.{Change, Sheet, rows_bytes, rows_behind, rows_after}
use Rattle.catalogue.specs.Answer.{before_bytes, rows_in, rows_laid}
use Rattle.catalogue.specs.Fit.{FitChange, Fit, refused, accepted}

-- rows of as many objects as there can be, or of none
pub record Sized (rows : List ℕ) : Type 0 where
  pub objects : ℕ
  pub most : objects ≤ most_objects
  pub long : length rows ≡ rows_bytes objects

pub rows_in-sized : (before : List ℕ) → before_bytes ≤ length before → Sized (rows_in before)
unfolding rows_in
rows_in-sized before h =
    let n : ℕ = min (get_or before 0 0) most_objects in
    record { objects = n; most = omega arith; long = length-take-le (rows_bytes n) (drop 1 before) (omega (arith, length-drop 1 before)) }

-- the rows laid are the rows taken
pub rows-kept : (rows before : List ℕ) → Sized rows → rows_in (onto (rows_laid rows) before) ≡ rows
unfolding rows_in rows_laid onto
rows-kept rows before h = take_at rows (drop (suc (length rows)) before) (rows_bytes (min (length rows / record_bytes) most_objects)) (omega arith)

onto_long : (front buffer : List ℕ) → length front ≤ length buffer → length (onto front buffer) ≡ length buffer
unfolding onto
onto_long front buffer h = omega (arith, length-append front (drop (length front) buffer), length-drop (length front) buffer)

pub laid_long : (rows before : List ℕ) → Sized rows → before_bytes ≤ length before → length (onto (rows_laid rows) before) ≡ length before
unfolding rows_laid
laid_long rows before h l = onto_long (length rows / record_bytes ∷ rows) before (omega arith)

-- ---- behind sheets that fit

behind-sized : (objects : ℕ) → objects ≤ most_objects → (before : List ℕ) (us : List Change) → Sized before → Every (FitChange objects) us → Sized (rows_behind before us)
unfolding rows_behind
behind-sized objects h before [] s f = s
behind-sized objects h before (u ∷ us) s f =
    behind-sized objects h u.rows us (record { objects = objects; most = h; long = f.0.rows.long }) f.1

sheet-sized : (before : List ℕ) (x : Sheet) → Sized before → Fit x → Sized (rows_behind before x.updates)
unfolding rows_behind
sheet-sized before x s (refused h c e) = subst (λ (us : List Change). Sized (rows_behind before us)) (sym (ap (λ (y : Sheet). y.updates) e)) s
sheet-sized before x s (accepted h z low high many f) = behind-sized x.objects high before x.updates s f

pub after-sized : (before : List ℕ) (xs : List Sheet) → Sized before → Every Fit xs → Sized (rows_after before xs)
unfolding rows_after
after-sized before [] s f = s
after-sized before (x ∷ xs) s f = after-sized (rows_behind before x.updates) xs (sheet-sized before x s f.0) f.1
