-- The entries of an update read back: the fields of an object, its entry, and the entries of all objects.
use Rattle.std.specs.Prelude.{◌≡◌, Bool, true, false, not, eqb, set}
use Rattle.std.proofs.Math.Path.{refl}
use Rattle.std.proofs.Common.{sym, ap, ◌∙◌, eqb-true, eq-eqb, ne_eqb}
use Rattle.std.proofs.lemmas.Bool.{false≢true, eqb-false}
use mathlib.Core.List.{List, [], ◌∷◌, ◌++◌, append_assoc}
use Rattle.std.proofs.Math.Option.{none}
use Prim.Native.Nat.{ℕ, zero, suc, ◌+◌, ◌-◌, ◌*◌, ◌≤◌, ◌<◌}
use native.Mathlib.Omega.{arith}
use Rattle.std.proofs.Math.ListN.{get_or}
use Rattle.std.proofs.lemmas.List.{set-get_or}
use Rattle.std.proofs.Math.Seq.{get_or-set_other}
use Rattle.bits.specs.Language.{pick, from}
use Rattle.bits.specs.Steps.{by_order}
use Rattle.bits.specs.Writes.{only}
use Rattle.oamd.specs.Tables.{most_objects, record_bytes}
use Rattle.keys.specs.Names.{object_key}
use Rattle.text.specs.Numerals.{decimal}
use Rattle.text.specs.Lines.{texts, comma, newline}
use Rattle.catalogue.specs.Fields.{field_of}
use Rattle.catalogue.specs.Text.{pair, listed, changes, is_there, entry_line}
use Rattle.catalogue.specs.Scan.{after}
use Rattle.catalogue.specs.Back.{field_back, fields_back, entry_back, no_object, next_object, entries_back}
use Rattle.catalogue.specs.Fit.{FitRows}
use Rattle.catalogue.specs.NumeralBack.{NoDigit}
use Rattle.catalogue.specs.Lemmas.Lines.{behind, InLine}
use Rattle.catalogue.specs.Lemmas.Keys.{key_in-line, key_apart}
use Rattle.catalogue.specs.Lemmas.Cells.{is_listed, cells, changes-cells, not_listed, listed_none, both_none, there, laid, laid_out, laid-add, laid_none}
use Rattle.catalogue.specs.Lemmas.Reads.{Reads, Begins, Any, r-give, r_peek, r-number, r_end-line, r_there, r_else, r-bind, r-check, r-text, r-value, r-before, r_last}

-- ---- fields

-- what stands behind field k: neither a digit nor that field
record FieldEnds (k : ℕ) (s : List ℕ) : Type 0 where
  no_digit : NoDigit s
  no_key : after (comma ∷ (field_of k).key) s ≡ none

line-ends : (k : ℕ) (s : List ℕ) → Begins newline s → FieldEnds k s
unfolding after
line-ends k [] h = absurd h
line-ends k (x ∷ s) h = record { no_digit = rw h; no_key = rw h }

-- further fields, and the end of the line
cells_end : (full : Bool) (old now : List ℕ) (j k at m : ℕ) → j < k → k + m ≤ record_bytes → (s : List ℕ) → Begins newline s
    → FieldEnds j (cells full old now k at m ++ s)
unfolding cells
cells_end full old now j k at zero l h s q = line-ends j s q
cells_end full old now j k at (suc m) l h s q =
    go (is_listed full (get_or old at 0) (get_or now at 0)) (cells_end full old now j (suc k) (suc at) m (omega arith) (omega arith) s q)
  where
    rest : List ℕ
    rest = cells full old now (suc k) (suc at) m

    text : List ℕ
    text = decimal (get_or now at 0)

    go : (t : Bool) → FieldEnds j (rest ++ s) → FieldEnds j ((only t (comma ∷ pair (field_of k).key (get_or now at 0)) ++ rest) ++ s)
    go true f =
        record { no_digit = refl; no_key = rw (append_assoc (field_of k).key text rest, append_assoc (field_of k).key (text ++ rest) s) (key_apart j k l (omega arith) ((text ++ rest) ++ s)) }
    go false f = f

field-reads : (full : Bool) (k at v : ℕ) (rows : List ℕ) → k < record_bytes → (field_of k).least ≤ v → v ≤ (field_of k).most
    → Reads (field_back full k at rows) (listed full (get_or rows at 0) v k) (set rows at v) (FieldEnds k)
unfolding field_back
field-reads full k at v rows h l m = go (is_listed full (get_or rows at 0) v) refl
  where
    go : (t : Bool) → is_listed full (get_or rows at 0) v ≡ t
        → Reads (field_back full k at rows) (only t (comma ∷ pair (field_of k).key v)) (set rows at v) (FieldEnds k)
    go true q = r_there (comma ∷ (field_of k).key) (key_in-line k h) (r_last (r-before (λ s e. e.no_digit) (r-number l m)) (r-check q (r-give (set rows at v))))
    go false q =
        let e = not_listed full (get_or rows at 0) v q in
        r-value (sym (set-get_or rows at 0) ∙ ap (set rows at) e.1)
        (r_else (comma ∷ (field_of k).key) (λ s e. e.no_key) (r-check (ap not e.0) (r-give rows)))

-- from a place on the rows are still the old ones
abbrev pub Ahead : List ℕ → List ℕ → ℕ → Type 0
Ahead old rows at = (i : ℕ) → at ≤ i → get_or rows i 0 ≡ get_or old i 0

module _ (full : Bool) (objects : ℕ) (old now : List ℕ) (fit : FitRows objects now) where
  -- m fields, as far as the rows behind them are still the old ones
  fields_read : (j k at m : ℕ) (rows : List ℕ) → j < objects → at ≡ record_bytes * j + k → k + m ≤ record_bytes → Ahead old rows at
      → Reads (fields_back full k at m rows) (cells full old now k at m) (laid rows now at m) (Begins newline)
  unfolding fields_back cells laid
  fields_read j k at zero rows l e h a = r-give rows
  fields_read j k at (suc m) rows l e h a =
      let v = get_or now at 0 in
      r-text (ap (λ (x : ℕ). listed full x v k ++ cells full old now (suc k) (suc at) m) (a at (omega arith)))
      (r-bind
      (field-reads full k at v rows (omega arith) (rw e (fit.least j k l (omega arith))) (rw e (fit.most j k l (omega arith))))
      (λ s q. cells_end full old now k (suc k) (suc at) m (omega arith) (omega arith) s q)
      (fields_read j (suc k) (suc at) m (set rows at v) l (omega arith) (omega arith)
      (λ i g. get_or-set_other rows at i v 0 (λ f. omega arith) ∙ a i (omega arith))))

-- ---- an entry

-- what is listed begins with a comma
cells-begin : (full : Bool) (old now : List ℕ) (k at m : ℕ) → is_there (cells full old now k at m) ≡ true → (s : List ℕ)
    → Begins comma (cells full old now k at m ++ s)
unfolding cells
cells-begin full old now k at zero h s = absurd (false≢true h)
cells-begin full old now k at (suc m) h s =
    go (is_listed full (get_or old at 0) (get_or now at 0)) (λ g. cells-begin full old now (suc k) (suc at) m g s) h
  where
    rest : List ℕ
    rest = cells full old now (suc k) (suc at) m

    go : (t : Bool) → (is_there rest ≡ true → Begins comma (rest ++ s)) → is_there (only t (comma ∷ pair (field_of k).key (get_or now at 0)) ++ rest) ≡ true
        → Begins comma ((only t (comma ∷ pair (field_of k).key (get_or now at 0)) ++ rest) ++ s)
    go true f g = refl
    go false f g = f g

pub changes-begin : (full : Bool) (old now : List ℕ) (j : ℕ) → is_there (changes full old now j) ≡ true → (s : List ℕ) → Begins comma (changes full old now j ++ s)
changes-begin full old now j h s = rw (changes-cells full old now j) (cells-begin full old now 0 (record_bytes * j) record_bytes (rw (changes-cells full old now j) at h) s)

-- without anything listed, not every field is
cells-quiet : (full : Bool) (old now : List ℕ) (k at m : ℕ) → 1 ≤ m → cells full old now k at m ≡ [] → full ≡ false
unfolding cells
cells-quiet full old now k at zero l h = absurd (omega arith)
cells-quiet full old now k at (suc m) l h =
    (not_listed full (get_or old at 0) (get_or now at 0) (listed_none full (get_or old at 0) (get_or now at 0) k (both_none _ _ h).0)).0

module _ (full : Bool) (objects : ℕ) (old now : List ℕ) (fit : FitRows objects now) where
  entry-reads : (j : ℕ) (rows : List ℕ) → j < objects → Ahead old rows (record_bytes * j) → is_there (changes full old now j) ≡ true
      → Reads (entry_back full j rows) (changes full old now j ++ (newline ∷ [])) (laid rows now (record_bytes * j) record_bytes) Any
  unfolding entry_back
  entry-reads j rows l a h =
      let read = fields_read full objects old now fit j 0 (record_bytes * j) record_bytes rows l (omega arith) (omega arith) a in
      r-bind (r_peek comma)
      (λ s q. rw (append_assoc (changes full old now j) (newline ∷ []) s) (changes-begin full old now j h ((newline ∷ []) ++ s)))
      (r-bind (r-text (sym (changes-cells full old now j)) read) (λ s q. refl) (r_last r_end-line (r-give _)))

-- ---- the entries, the next of which is known by its object

module _ (full : Bool) (old now : List ℕ) where
  -- the object of the next entry, of m from j on
  unfoldable pub first_of : ℕ → ℕ → ℕ
  first_of j zero = no_object
  first_of j (suc m) = pick (is_there (changes full old now j)) j (first_of (suc j) m)

  -- the entries of m objects from j on
  abbrev pub entries_of : ℕ → ℕ → List ℕ
  entries_of j m = texts (entry_line full old now) (from j m)

  -- what stands behind its number
  unfoldable pub rest_of : ℕ → ℕ → List ℕ
  rest_of j zero = []
  rest_of j (suc m) = pick (is_there (changes full old now j)) ((changes full old now j ++ (newline ∷ [])) ++ entries_of (suc j) m) (rest_of (suc j) m)

-- `object=` and its number, if there is one
abbrev pub head_of : ℕ → List ℕ
head_of next = only (not (eqb next no_object)) (pair object_key next)

-- no entry follows
abbrev pub NoEntry : List ℕ → Type 0
NoEntry s = after object_key s ≡ none

object_in-line : InLine object_key
unfolding behind
object_in-line n = refl

comma-ends : (s : List ℕ) → Begins comma s → NoDigit s
comma-ends [] h = absurd h
comma-ends (x ∷ s) h = rw h

-- what must not stand behind it: a digit, or, if there is none, an entry
abbrev pub NextEnds : ℕ → List ℕ → Type 0
NextEnds next s = pick (eqb next no_object) (NoEntry s) (NoDigit s)

pub next-reads : (next : ℕ) → next ≤ no_object → Reads next_object (head_of next) next (NextEnds next)
next-reads next l = go (eqb next no_object) refl
  where
    below-it : (next ≡ no_object → ⊥) → next ≤ no_object - 1
    below-it e = by_order next (no_object - 1) (λ h. h) (λ h. absurd (e (omega arith)))

    go : (t : Bool) → eqb next no_object ≡ t → Reads next_object (only (not t) (pair object_key next)) next (λ s. pick t (NoEntry s) (NoDigit s))
    go true e = r-value (sym (eqb-true next no_object e)) (r_else object_key (λ s q. q) (r-give no_object))
    go false e = r_there object_key object_in-line (r-number (omega arith) (below-it (eqb-false next no_object e)))

module _ (full : Bool) (old now : List ℕ) where
  pub entries-split : (j m : ℕ) → j + m ≤ no_object → entries_of full old now j m ≡ head_of (first_of full old now j m) ++ rest_of full old now j m
  unfolding first_of rest_of texts from entry_line
  entries-split j zero h = refl
  entries-split j (suc m) h = go (is_there (changes full old now j)) (entries-split (suc j) m (omega arith))
    where
      mine : List ℕ
      mine = changes full old now j ++ (newline ∷ [])

      rest : List ℕ
      rest = entries_of full old now (suc j) m

      go : (t : Bool) → rest ≡ head_of (first_of full old now (suc j) m) ++ rest_of full old now (suc j) m
          → only t (pair object_key j ++ mine) ++ rest
          ≡ head_of (pick t j (first_of full old now (suc j) m)) ++ pick t (mine ++ rest) (rest_of full old now (suc j) m)
      go true f = rw (ne_eqb j no_object (λ e. omega arith)) (append_assoc (pair object_key j) mine rest)
      go false f = f

  pub first_least : (j m : ℕ) → j + m ≤ no_object → (j ≤ first_of full old now j m) × (first_of full old now j m ≤ no_object)
  unfolding first_of
  first_least j zero h = (omega arith, omega arith)
  first_least j (suc m) h = go (is_there (changes full old now j)) (first_least (suc j) m (omega arith))
    where
      next : ℕ
      next = first_of full old now (suc j) m

      go : (t : Bool) → (suc j ≤ next) × (next ≤ no_object) → (j ≤ pick t j next) × (pick t j next ≤ no_object)
      go true f = (omega arith, omega arith)
      go false f = let l = f.0 in (omega arith, f.1)

  pub rest-ends : (j m : ℕ) → j + m ≤ no_object → (s : List ℕ) → NoEntry s → NextEnds (first_of full old now j m) (rest_of full old now j m ++ s)
  unfolding first_of rest_of
  rest-ends j zero h s q = q
  rest-ends j (suc m) h s q = go (is_there (changes full old now j)) refl (rest-ends (suc j) m (omega arith) s q)
    where
      mine : List ℕ
      mine = changes full old now j

      rest : List ℕ
      rest = entries_of full old now (suc j) m

      next : ℕ
      next = first_of full old now (suc j) m

      go : (t : Bool) → is_there mine ≡ t → NextEnds next (rest_of full old now (suc j) m ++ s)
          → NextEnds (pick t j next) (pick t ((mine ++ (newline ∷ [])) ++ rest) (rest_of full old now (suc j) m) ++ s)
      go true e f =
          rw (ne_eqb j no_object (λ e. omega arith), append_assoc (mine ++ (newline ∷ [])) rest s, append_assoc mine (newline ∷ []) (rest ++ s))
          (comma-ends (mine ++ ((newline ∷ []) ++ (rest ++ s))) (changes-begin full old now j e ((newline ∷ []) ++ (rest ++ s))))
      go false e f = f

-- a row is laid, and the others behind it
laid-row : (rows now : List ℕ) (j m : ℕ)
    → laid rows now (record_bytes * j) (record_bytes * suc m) ≡ laid (laid rows now (record_bytes * j) record_bytes) now (record_bytes * suc j) (record_bytes * m)
laid-row rows now j m =
    let e : record_bytes * suc m ≡ record_bytes + record_bytes * m = omega arith in
    let f : record_bytes * suc j ≡ record_bytes * j + record_bytes = omega arith in
    rw (e, f) (laid-add rows now (record_bytes * j) record_bytes (record_bytes * m))

module _ (full : Bool) (objects : ℕ) (old now : List ℕ) (fit : FitRows objects now) (few : objects ≤ most_objects) where
  pub entries-read : (j m : ℕ) (rows : List ℕ) → j + m ≤ objects → Ahead old rows (record_bytes * j)
      → Reads (entries_back full j m (first_of full old now j m) rows) (rest_of full old now j m) (laid rows now (record_bytes * j) (record_bytes * m)) NoEntry
  unfolding entries_back first_of rest_of laid
  entries-read j zero rows h a = r-give rows
  entries-read j (suc m) rows h a =
      go (is_there (changes full old now j)) refl (λ then g. entries-read (suc j) m then (omega arith) g)
    where
      mine : List ℕ
      mine = changes full old now j

      next : ℕ
      next = first_of full old now (suc j) m

      row : List ℕ
      row = laid rows now (record_bytes * j) record_bytes

      row-ahead : Ahead old row (record_bytes * suc j)
      row-ahead i l = laid_out rows now (record_bytes * j) record_bytes i (λ g. omega arith) ∙ a i (omega arith)

      go : (t : Bool) → is_there mine ≡ t
          → ((then : List ℕ) → Ahead old then (record_bytes * suc j)
          → Reads (entries_back full (suc j) m next then) (rest_of full old now (suc j) m) (laid then now (record_bytes * suc j) (record_bytes * m)) NoEntry)
          → Reads (entries_back full j (suc m) (pick t j next) rows)
          (pick t ((mine ++ (newline ∷ [])) ++ entries_of full old now (suc j) m) (rest_of full old now (suc j) m)) (laid rows now (record_bytes * j) (record_bytes * suc m)) NoEntry
      go true e f =
          rw (eq-eqb j j refl, laid-row rows now j m)
          (r-bind (entry-reads full objects old now fit j rows (omega arith) a e) (λ s q. tt)
          (r-text (sym (entries-split full old now (suc j) m (omega arith)))
          (r-bind (next-reads next (first_least full old now (suc j) m (omega arith)).1) (rest-ends full old now (suc j) m (omega arith)) (f row row-ahead))))
      go false e f =
          let none-there : cells full old now 0 (record_bytes * j) record_bytes ≡ [] = sym (changes-cells full old now j) ∙ there mine e in
          let l = (first_least full old now (suc j) m (omega arith)).0 in
          rw (ne_eqb next j (λ e. omega arith), laid-row rows now j m, laid_none full old now rows 0 (record_bytes * j) record_bytes a none-there)
          (r-check (ap not (cells-quiet full old now 0 (record_bytes * j) record_bytes (omega arith) none-there)) (f rows (λ i l. a i (omega arith))))
