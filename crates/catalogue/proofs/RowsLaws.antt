-- The entries of an update: the tables of the code, and rows and updates field by field and object by object. Assumes nothing.
use Rattle.std.specs.Prelude.{◌≡◌, Bool, true, false, List, [], ◌∷◌, map, ℕ, suc, ◌+◌, ◌-◌, ◌≤◌, ◌<◌, leb, eqb, get_or, Some, None, Option as Choice}
use Rattle.std.proofs.Common.{Bor, refl, sym, ap, ◌∙◌, arith, add-one, leb-true, length, eq-eqb, ne_eqb}
use native.Mathlib.Nat.{sub-zero}
use Rattle.std.proofs.Math.Option.{none, some}
use lib.ListN.{get_or-map}
use Rattle.bits.specs.Language.{pick}
use Rattle.form.specs.Lemmas.Tests.{below}
use Rattle.oamd.specs.Tables.{record_bytes}
use Rattle.catalogue.specs.declared.Reader.{Reader}
use Rattle.catalogue.specs.Fields.{Field, field, fields, field_of}
use Rattle.catalogue.specs.Scan.{S, ◌>>=◌, after, run, got, bad, and_then}
use Rattle.catalogue.specs.Back.{field_back, fields_back, no_object, entries_back}
use Rattle.catalogue.specs.Parts.{Behind, runs, next_of}

-- ---- the tables

abbrev leasts : List ℕ
leasts = map (λ (f : Field). f.least) fields

abbrev mosts : List ℕ
mosts = map (λ (f : Field). f.most) fields

pub least_of : (k : ℕ) → get_or leasts k 0 ≡ (field_of k).least
unfolding field_of
least_of k = get_or-map (λ (f : Field). f.least) fields k (field [] 0 0)

pub most_of : (k : ℕ) → get_or mosts k 0 ≡ (field_of k).most
unfolding field_of
most_of k = get_or-map (λ (f : Field). f.most) fields k (field [] 0 0)

-- every value of a field is a byte
pub most_byte : (k : ℕ) → k < record_bytes → get_or mosts k 0 ≤ 255
unfolding fields
most_byte k h = leb-true (get_or mosts k 0) 255 (below record_bytes (λ k. leb (get_or mosts k 0) 255) refl k h)

-- what a reference in a table points to
pub now_of : (l : List (Bor (List ℕ))) (k : ℕ) (d : Bor (List ℕ)) → (get_or l k d).now ≡ get_or (map (λ (b : Bor (List ℕ)). b.now) l) k d.now
now_of l k d = sym (get_or-map (λ (b : Bor (List ℕ)). b.now) l k d)

pub key_of : (k : ℕ) → get_or (map (λ (f : Field). f.key) fields) k [] ≡ (field_of k).key
unfolding field_of
key_of k = get_or-map (λ (f : Field). f.key) fields k (field [] 0 0)

-- ---- a byte, and a word behind it

pub word-behind : (b : ℕ) (w s t : List ℕ) → after (b ∷ []) s ≡ some t → after (b ∷ w) s ≡ after w t
unfolding after
word-behind b w [] t h = cc
word-behind b w (x ∷ s) t h = go (eqb x b) h
  where
    go : (e : Bool) → pick e (some s) none ≡ some t → pick e (after w s) none ≡ after w t
    go true h = cc
    go false h = cc

pub byte-missing : (b : ℕ) (w s : List ℕ) → after (b ∷ []) s ≡ none → after (b ∷ w) s ≡ none
unfolding after
byte-missing b w [] h = refl
byte-missing b w (x ∷ s) h = go (eqb x b) h
  where
    go : (e : Bool) → pick e (some s) none ≡ none → pick e (after w s) none ≡ none
    go true h = cc
    go false h = refl

pub key_behind : (b : ℕ) (w w' : List ℕ) (r x : Reader) (next : _) → (after (b ∷ []) r.rest.now ≡ some x.rest.now) × (x.line ≡ r.line)
    → Behind w' x next → w' ≡ w → Behind (b ∷ w) r next
key_behind b w w' r x None f h e = word-behind b w _ _ f.0 ∙ sym (ap (λ (l : List ℕ). after l x.rest.now) e) ∙ h
key_behind b w w' r x (Some y) f h e = (word-behind b w _ _ f.0 ∙ sym (ap (λ (l : List ℕ). after l x.rest.now) e) ∙ h.0, h.1 ∙ f.1)

-- ---- one step after another

pub on-bind : {A B : Type 0} (r : Reader) {m : ℕ} {t : List ℕ} {a : A} (p : S A) (k : A → S B) → got a m t ≡ runs r p → run (k a) m t ≡ runs r (p >>= k)
unfolding run
on-bind r p k e = ap (λ x. and_then x (λ a m rest. run (k a) m rest)) e

pub bad-bind : {A B : Type 0} (r : Reader) {m : ℕ} (p : S A) (k : A → S B) → bad m ≡ runs r p → bad m ≡ runs r (p >>= k)
unfolding run
bad-bind r p k e = ap (λ x. and_then x (λ a m rest. run (k a) m rest)) e

-- ---- the fields of a row, from field k on

module _ (full : Bool) (at k : ℕ) (h : k < record_bytes) (r : Reader) (rows : List ℕ) where
  more : fields_back full k (at + k) (record_bytes - k) rows
      ≡ (field_back full k (at + k) rows >>= λ now. fields_back full (k + 1) (at + (k + 1)) (record_bytes - (k + 1)) now)
  unfolding fields_back
  more =
      let one : record_bytes - k ≡ suc (record_bytes - (k + 1)) = omega arith in
      let next : at + (k + 1) ≡ suc (at + k) = omega arith in
      rw (one, next, add-one k) refl

  pub row_on : {rows' : List ℕ} {m : ℕ} {t : List ℕ} → got rows' m t ≡ runs r (field_back full k (at + k) rows)
      → run (fields_back full (k + 1) (at + (k + 1)) (record_bytes - (k + 1)) rows') m t ≡ runs r (fields_back full k (at + k) (record_bytes - k) rows)
  row_on e = on-bind r _ _ e ∙ sym (ap (runs r) more)

  pub row_bad : {m : ℕ} → bad m ≡ runs r (field_back full k (at + k) rows) → bad m ≡ runs r (fields_back full k (at + k) (record_bytes - k) rows)
  row_bad e = bad-bind r _ _ e ∙ sym (ap (runs r) more)

pub row_end : (full : Bool) (at k : ℕ) → record_bytes ≤ k → (r : Reader) (rows : List ℕ) → got rows r.line r.rest.now ≡ runs r (fields_back full k at (record_bytes - k) rows)
unfolding fields_back run
row_end full at k h r rows = let none : record_bytes - k ≡ 0 = omega arith in rw none refl

-- before field k: what is left of the row gives what the whole row gives
pub record RowLeft (full : Bool) (at : ℕ) (r d : Reader) (rows₀ rows : List ℕ) (k : ℕ) : Type 0 where
  pub within : k ≤ record_bytes
  pub kept : length rows ≡ length rows₀
  pub same : runs d (fields_back full k (at + k) (record_bytes - k) rows) ≡ runs r (fields_back full 0 at record_bytes rows₀)

pub row_start : (full : Bool) (at : ℕ) (r : Reader) (rows : List ℕ) → RowLeft full at r r rows rows 0
row_start full at r rows =
    let e : at + 0 ≡ at = omega arith in
    record { within = omega arith; kept = refl; same = rw e }

module _ {full : Bool} {at : ℕ} {r d : Reader} {rows₀ rows : List ℕ} {k : ℕ} (l : RowLeft full at r d rows₀ rows k) where
  pub row_step : (r' : Reader) (rows' : List ℕ) → k < record_bytes → got rows' r'.line r'.rest.now ≡ runs d (field_back full k (at + k) rows)
      → length rows' ≡ length rows → RowLeft full at r r' rows₀ rows' (k + 1)
  row_step r' rows' h e f = record { within = omega arith; kept = f ∙ l.kept; same = row_on full at k h d rows e ∙ l.same }

  pub row_stop : {m : ℕ} → k < record_bytes → bad m ≡ runs d (field_back full k (at + k) rows) → bad m ≡ runs r (fields_back full 0 at record_bytes rows₀)
  row_stop h e = row_bad full at k h d rows e ∙ l.same

  pub row_whole : record_bytes ≤ k → got rows d.line d.rest.now ≡ runs r (fields_back full 0 at record_bytes rows₀)
  row_whole h = row_end full (at + k) k h d rows ∙ l.same

-- ---- the objects of an update

-- before object j: what is left of the update gives what the whole of it gives
pub record EntriesLeft (full : Bool) (objects : ℕ) (r d : Reader) (next₀ next : Choice ℕ) (rows₀ rows : List ℕ) (j : ℕ) : Type 0 where
  pub within : j ≤ objects
  pub kept : length rows ≡ length rows₀
  pub same : runs d (entries_back full j (objects - j) (next_of next) rows) ≡ runs r (entries_back full 0 objects (next_of next₀) rows₀)

pub entries_start : (full : Bool) (objects : ℕ) (r : Reader) (next : Choice ℕ) (rows : List ℕ) → EntriesLeft full objects r r next next rows rows 0
entries_start full objects r next rows = record { within = omega arith; kept = refl; same = rw (sub-zero objects) }

module _ {full : Bool} {objects : ℕ} {r d : Reader} {next₀ next : Choice ℕ} {rows₀ rows : List ℕ} {j : ℕ} (l : EntriesLeft full objects r d next₀ next rows₀ rows j) where
  module _ (h : j < objects) where
    more-left : runs d (entries_back full j (suc (objects - suc j)) (next_of next) rows) ≡ runs r (entries_back full 0 objects (next_of next₀) rows₀)
    more-left = let one : objects - j ≡ suc (objects - suc j) = omega arith in rw one at l.same

    pub entries_step : (r' : Reader) (next' : Choice ℕ) (rows' : List ℕ)
        → ((m : ℕ) → runs r' (entries_back full (suc j) m (next_of next') rows') ≡ runs d (entries_back full j (suc m) (next_of next) rows))
        → length rows' ≡ length rows → EntriesLeft full objects r r' next₀ next' rows₀ rows' (j + 1)
    entries_step r' next' rows' e f = record { within = omega arith; kept = f ∙ l.kept; same = rw (add-one j) (e (objects - suc j) ∙ more-left) }

    pub entries_stop : {n : ℕ} → ((m : ℕ) → bad n ≡ runs d (entries_back full j (suc m) (next_of next) rows)) → bad n ≡ runs r (entries_back full 0 objects (next_of next₀) rows₀)
    entries_stop e = e (objects - suc j) ∙ more-left

  module _ (h : objects ≤ j) where
    -- behind the last object, where no entry is left and where one is
    behind : runs d (entries_back full j 0 (next_of next) rows) ≡ runs r (entries_back full 0 objects (next_of next₀) rows₀)
    behind = let none : objects - j ≡ 0 = omega arith in rw none at l.same

    pub entries_end : next_of next ≡ no_object → got rows d.line d.rest.now ≡ runs r (entries_back full 0 objects (next_of next₀) rows₀)
    unfolding run entries_back
    entries_end e = rw (eq-eqb (next_of next) no_object e) at behind

    pub entries_over : (next_of next ≡ no_object → ⊥) → bad d.line ≡ runs r (entries_back full 0 objects (next_of next₀) rows₀)
    unfolding run entries_back
    entries_over e = rw (ne_eqb (next_of next) no_object e) at behind
