-- The updates of a frame, one after the other: what was read so far, and what is left. Assumes nothing.
use mathlib.Core.Path.{◌≡◌, refl, sym, ap, ap₂, ◌∙◌, subst}
use mathlib.Core.List.{List, [], ◌∷◌, ◌++◌, map, append-nil, append_assoc}
use Prim.Native.Nat.{ℕ, zero, suc, ◌+◌, ◌-◌, ◌*◌, ◌<◌, ◌≤◌}
use native.Mathlib.Nat.{sub-zero, mul-le-mul_left}
use native.Mathlib.Numerals.{add-one}
use native.Mathlib.Omega.{arith}
use lib.ListN.{length, set, take, drop, length-set}
use lib.Seq.{sets, sets-eq, get_or-set_same, get_or-set_other, take-set-le, take_at, drop_at, length-take-le}
use Rattle.bits.specs.Language.{from}
use Rattle.oamd.specs.Tables.{most_objects, most_blocks, scratch_bytes}
use Rattle.text.specs.Laying.{Laid}
use Rattle.text.proofs.LayLaws.{laid-length}
use Rattle.oamd.specs.declared.Update.{Update}
use Rattle.oamd.specs.Timing.{no_update}
use Rattle.catalogue.specs.declared.Latest.{Latest}
use Rattle.catalogue.specs.declared.Objects.{Objects}
use Rattle.catalogue.specs.declared.Reader.{Reader}
use Rattle.catalogue.specs.Sheets.{Change, rows_bytes, rows_behind}
use Rattle.catalogue.specs.Scan.{got, bad, give, ◌>>=◌, run}
use Rattle.catalogue.specs.Back.{update_back, updates_back}
use Rattle.catalogue.specs.Parts.{rows_of, front, runs}
use Rattle.catalogue.specs.BackCalls.{change_in, changes_in}
use Rattle.catalogue.specs.Writes.{change_by}
use Rattle.catalogue.proofs.RowsLaws.{on-bind, bad-bind}
use Rattle.catalogue.proofs.BackRuns.{mapped, maps_same, maps_then, mapped-mapped, mapped-alike}
use Rattle.catalogue.proofs.BackLending.{part-front, rows-within}

-- ---- one more

map-from : {A : Type 0} (f g : ℕ → A) (i n : ℕ) → ((k : ℕ) → k < i + n → f k ≡ g k) → map f (from i n) ≡ map g (from i n)
unfolding from
map-from f g i zero h = refl
map-from f g i (suc n) h = ap₂ ◌∷◌ (h i (omega arith)) (map-from f g (suc i) n (λ k l. h k (omega arith)))

map_last : {A : Type 0} (f : ℕ → A) (i n : ℕ) → map f (from i (suc n)) ≡ map f (from i n) ++ (f (i + n) ∷ [])
unfolding from
map_last f i zero = ap (λ (k : ℕ). f k ∷ []) (omega arith)
map_last f i (suc n) = let e : suc i + n ≡ i + suc n = omega arith in ap (λ l. f i ∷ l) (map_last f (suc i) n ∙ rw e)

behind_last : (before : List ℕ) (us : List Change) (u : Change) → rows_behind before (us ++ (u ∷ [])) ≡ u.rows
unfolding rows_behind
behind_last before [] u = refl
behind_last before (v ∷ us) u = behind_last v.rows us u

-- what is laid changes nothing in front of it
sets-front : (n : ℕ) (l : List ℕ) (i : ℕ) (vs : List ℕ) → n ≤ i → take n (sets l i vs) ≡ take n l
sets-front n l i [] h = refl
sets-front n l i (v ∷ vs) h = sets-front n (set l i v) (suc i) vs (omega arith) ∙ take-set-le n l i v h

part-kept : (k m i : ℕ) (l vs : List ℕ) → k + m ≤ i → take m (drop k (sets l i vs)) ≡ take m (drop k l)
part-kept k m i l vs h =
    sym (part-front k m (k + m) (sets l i vs) (omega arith)) ∙ ap (λ (x : List ℕ). take m (drop k x)) (sets-front (k + m) l i vs h) ∙ part-front k m (k + m) l (omega arith)

part-laid : (i m : ℕ) (l vs : List ℕ) → length vs ≡ m → i + m ≤ length l → take m (drop i (sets l i vs)) ≡ vs
part-laid i m l vs e h =
    let front : length (take i l) ≡ i = length-take-le i l (omega arith) in
    rw (sets-eq vs l i (omega arith), append_assoc, drop_at (take i l) (vs ++ drop (i + length vs) l) i front) (take_at vs (drop (i + length vs) l) m e)

-- the changes so far, and one more
module _ (objects blk : ℕ) (u : Update) (updates : List Update) (store rows : List ℕ) where
  abbrev behind : ℕ → Change
  behind = change_in objects (set updates blk u) (sets store (rows_bytes objects * blk) rows)

  kept : (k : ℕ) → k < blk → behind k ≡ change_in objects updates store k
  kept k h =
      let other : k ≡ blk → ⊥ = λ e. omega arith in
      let within : rows_bytes objects * k + rows_bytes objects ≤ rows_bytes objects * blk = omega (arith, mul-le-mul_left (rows_bytes objects) h) in
      rw (get_or-set_other updates blk k u no_update other, part-kept (rows_bytes objects * k) (rows_bytes objects) (rows_bytes objects * blk) store rows within)

  last : blk < length updates → length rows ≡ rows_bytes objects → rows_bytes objects * blk + rows_bytes objects ≤ length store → behind blk ≡ change_by u rows
  last h e f = rw (get_or-set_same updates blk u no_update h, part-laid (rows_bytes objects * blk) (rows_bytes objects) store rows e f)

  changes_more : blk < length updates → length rows ≡ rows_bytes objects → rows_bytes objects * blk + rows_bytes objects ≤ length store
      → changes_in objects (blk + 1) (set updates blk u) (sets store (rows_bytes objects * blk) rows) ≡ changes_in objects blk updates store ++ (change_by u rows ∷ [])
  changes_more h e f =
      let z : 0 + blk ≡ blk = omega arith in
      rw add-one (map_last behind 0 blk) ∙ ap₂ (λ (l : List Change) (u : Change). l ++ (u ∷ [])) (map-from behind _ 0 blk (λ k j. kept k (omega arith))) (ap behind z ∙ last h e f)

-- ---- a loop over the updates

-- so many were read, and these are they
pub record Begun (first : Reader) (objects blocks : ℕ) (before : List ℕ) (r : Reader) (more : ℕ) (now : List ℕ) (done : List Change) : Type 0 where
  pub left : runs first (updates_back objects blocks before) ≡ mapped (λ us. done ++ us) (runs r (updates_back objects more now))
  pub last : now ≡ rows_behind before done

begun : (first : Reader) (objects blocks : ℕ) (before : List ℕ) → Begun first objects blocks before first (blocks - 0) before []
unfolding rows_behind
begun first objects blocks before = record { left = rw sub-zero (sym ((maps_same (updates_back objects blocks before)).on first.line first.rest.now)); last = refl }

module _ {first : Reader} {objects blocks : ℕ} {before : List ℕ} {r : Reader} {now : List ℕ} {done : List Change} {n : ℕ} (h : Begun first objects blocks before r n now done) where
  begun_more : (k : ℕ) (next : Reader) (u : Change) → n ≡ suc k → got u next.line next.rest.now ≡ runs r (update_back objects now)
      → Begun first objects blocks before next k u.rows (done ++ (u ∷ []))
  unfolding updates_back
  begun_more k next u e f =
      let rest = runs next (updates_back objects k u.rows) in
      let step : mapped (λ us. u ∷ us) rest ≡ runs r (updates_back objects (suc k) now) =
      (maps_then (λ us. u ∷ us) (maps_same (updates_back objects k u.rows))).on next.line next.rest.now ∙ on-bind r _ _ f in
      record {
        left =
            h.left ∙ ap (λ (m : ℕ). mapped (λ us. done ++ us) (runs r (updates_back objects m now))) e ∙ ap (mapped (λ us. done ++ us)) (sym step)
            ∙ mapped-mapped (λ us. done ++ us) (λ us. u ∷ us) rest
            ∙ mapped-alike _ (λ us. (done ++ (u ∷ [])) ++ us) rest (λ us. sym (append_assoc done (u ∷ []) us));
        last = sym (behind_last before done u);
      }

  begun-bad : (k m : ℕ) → n ≡ suc k → bad m ≡ runs r (update_back objects now) → bad m ≡ runs first (updates_back objects blocks before)
  unfolding updates_back
  begun-bad k m e f =
      ap (mapped (λ us. done ++ us)) (bad-bind r (update_back objects now) (λ u. updates_back objects k u.rows >>= λ us. give (u ∷ us)) f)
      ∙ sym (h.left ∙ ap (λ (m : ℕ). mapped (λ us. done ++ us) (runs r (updates_back objects m now))) e)

  begun_all : n ≡ 0 → got done r.line r.rest.now ≡ runs first (updates_back objects blocks before)
  unfolding updates_back run
  begun_all e =
      sym (h.left ∙ ap (λ (m : ℕ). mapped (λ us. done ++ us) (runs r (updates_back objects m now))) e
      ∙ ap (λ (us : List Change). got us r.line r.rest.now) (append-nil done))

-- the same over the arrays that they stand in
pub record Going (first : Reader) (objects : Objects) (blocks : ℕ) (before : List ℕ) (r : Reader) (rows : Latest) (store : List ℕ) (updates : List Update) (blk : ℕ) : Type 0 where
  pub few : blk ≤ blocks
  pub changes : Begun first objects.n blocks before r (blocks - blk) (front rows) (changes_in objects.n blk updates store)
  pub store_long : length store ≡ scratch_bytes
  pub updates_long : length updates ≡ most_blocks

pub going : (first : Reader) (objects : Objects) (blocks : ℕ) (rows : Latest) (store : List ℕ) (updates : List Update) → length store ≡ scratch_bytes → length updates ≡ most_blocks
    → Going first objects blocks (front rows) first rows store updates 0
unfolding from
going first objects blocks rows store updates h i =
    record { few = omega arith; changes = begun first objects.n blocks (front rows); store_long = h; updates_long = i }

module _ {first : Reader} {objects : Objects} {blocks : ℕ} {before : List ℕ} {r : Reader} {rows : Latest} {store : List ℕ} {updates : List Update} {blk : ℕ}
    (h : Going first objects blocks before r rows store updates blk) where
  pub going_more : blocks ≤ most_blocks → blk < blocks → (next : Reader) (now : Latest) (u : Update) → now.count.n ≡ objects.n → length now.bytes ≡ rows_bytes most_objects
      → got (change_by u (front now)) next.line next.rest.now ≡ runs r (update_back objects.n (front rows))
      → {behind : List ℕ} {to : ℕ} → Laid store behind (rows_bytes objects.n * blk) to (rows_of objects.n now.bytes)
      → Going first objects blocks before next now behind (set updates blk u) (blk + 1)
  going_more many here next now u count all read {behind} {to} laid =
      let few = objects.few in
      let same : front now ≡ rows_of objects.n now.bytes = ap (λ (n : ℕ). rows_of n now.bytes) count in
      let long : length (rows_of objects.n now.bytes) ≡ rows_bytes objects.n = length-take-le (rows_bytes objects.n) now.bytes (omega arith) in
      let within = rows-within objects.n blocks blk few many here in
      let more : changes_in objects.n (blk + 1) (set updates blk u) behind ≡ changes_in objects.n blk updates store ++ (change_by u (front now) ∷ []) =
      ap (changes_in objects.n (blk + 1) (set updates blk u)) laid.same
      ∙ changes_more objects.n blk u updates store (rows_of objects.n now.bytes) (omega (arith, h.updates_long)) long (omega (arith, h.store_long))
      ∙ ap (λ (l : List ℕ). changes_in objects.n blk updates store ++ (change_by u l ∷ [])) (sym same) in
      record {
        few = omega arith;
        changes =
            subst (λ (us : List Change). Begun first objects.n blocks before next (blocks - (blk + 1)) (front now) us) (sym more)
            (begun_more h.changes (blocks - (blk + 1)) next (change_by u (front now)) (omega arith) read);
        store_long = laid-length laid ∙ h.store_long;
        updates_long = length-set updates blk u ∙ h.updates_long;
      }

  pub going-bad : blk < blocks → {m : ℕ} → bad m ≡ runs r (update_back objects.n (front rows)) → bad m ≡ runs first (updates_back objects.n blocks before)
  going-bad here {m} e = begun-bad h.changes (blocks - (blk + 1)) m (omega arith) e

  pub gone : blocks ≤ blk → (got (changes_in objects.n blocks updates store) r.line r.rest.now ≡ runs first (updates_back objects.n blocks before))
      × (front rows ≡ rows_behind before (changes_in objects.n blocks updates store))
  gone all =
      let n : blk ≡ blocks = omega (arith, h.few) in (
        subst (λ (k : ℕ). got (changes_in objects.n k updates store) r.line r.rest.now ≡ runs first (updates_back objects.n blocks before)) n (begun_all h.changes (omega arith)),
        subst (λ (k : ℕ). front rows ≡ rows_behind before (changes_in objects.n k updates store)) n h.changes.last,
      )
