-- The entries of an update, from what was read to the text: the fields of an object, its entry, and the entries of all objects.
use Rattle.std.specs.Prelude.{◌≡◌, refl, Bool, true, not, eqb, length, set}
use Rattle.std.proofs.Math.Path.{sym, ap, ap₂, subst}
use Rattle.std.proofs.Common.{◌∙◌, arith, length-set, eqb-true, eq-eqb, ne_eqb}
use Rattle.std.proofs.Math.Bool.{false}
use mathlib.Core.List.{List, [], ◌∷◌, ◌++◌, append-nil, append_assoc}
use Prim.Native.Nat.{ℕ, zero, suc, ◌+◌, ◌*◌, ◌≤◌, ◌<◌}
use Rattle.std.proofs.Math.ListN.{get_or}
use Rattle.std.proofs.lemmas.List.{set-get_or}
use Rattle.std.proofs.Math.Seq.{get_or-set_same, get_or-set_other}
use Rattle.std.proofs.lemmas.Bool.{not-true}
use Rattle.bits.specs.Language.{from}
use Rattle.bits.specs.Steps.{by_order}
use Rattle.form.specs.Lemmas.Tests.{by_eq}
use Rattle.oamd.specs.Tables.{record_bytes}
use Rattle.text.specs.Numerals.{decimal}
use Rattle.text.specs.Lines.{texts, comma, newline}
use Rattle.catalogue.specs.Fields.{field_of}
use Rattle.catalogue.specs.Sheets.{cell}
use Rattle.catalogue.specs.Text.{listed, changes, is_there, entry_line}
use Rattle.catalogue.specs.Scan.{give, number, ◌>>=◌}
use Rattle.catalogue.specs.Back.{check, field_back, fields_back, entry_back, no_object, next_object, entries_back}
use Rattle.catalogue.specs.Lemmas.Cells.{is_listed, cells, changes-cells}
use Rattle.catalogue.specs.Lemmas.Spells.{Spells, s-give, s-check, s-pick, s-then, s-bind}
use Rattle.catalogue.specs.Lemmas.EntriesRead.{entries_of, head_of, Ahead}

-- a value that field k can have
abbrev pub InRange : ℕ → ℕ → Type 0
InRange k v = ((field_of k).least ≤ v) × (v ≤ (field_of k).most)

-- ---- fields

-- a field put a value into the rows, and was listed as it must be
record FieldOnly (full : Bool) (k at : ℕ) (rows t then : List ℕ) : Type 0 where
  v : ℕ
  is : then ≡ set rows at v
  text : t ≡ listed full (get_or rows at 0) v k
  held : (full ≡ false → InRange k (get_or rows at 0)) → InRange k v

field_only : (full : Bool) (k at : ℕ) (rows : List ℕ) → Spells (field_back full k at rows) (λ t then r. FieldOnly full k at rows t then)
unfolding field_back Spells
field_only full k at rows = (there_is, not_there)
  where
    key : List ℕ
    key = comma ∷ (field_of k).key

    there_is : Spells (number (field_of k).least (field_of k).most >>= λ v. check (is_listed full (get_or rows at 0) v) (give (set rows at v)))
        (λ t then r. FieldOnly full k at rows (key ++ t) then)
    there_is v s l h = s-check (is_listed full (get_or rows at 0) v) (give (set rows at v)) _ (λ e r q.
        record { v = v; is = refl; text = rw (e, append-nil (decimal v)); held = λ f. (l, h) })

    not_there : Spells (check (not full) (give rows)) (λ t then r. FieldOnly full k at rows t then)
    not_there = s-check (not full) (give rows) _ (λ e r.
        let same = get_or rows at 0 in
        record { v = same; is = sym (set-get_or rows at 0); text = rw (not-true full e, eq-eqb same same refl); held = λ f. f (not-true full e) })

-- m fields did so, from a place on, and left the others
record FieldsOnly (full : Bool) (old : List ℕ) (base k at m : ℕ) (rows t then : List ℕ) : Type 0 where
  text : t ≡ cells full old then k at m
  long : length then ≡ length rows
  out : (i : ℕ) → (at ≤ i → at + m ≤ i) → get_or then i 0 ≡ get_or rows i 0
  held : (i : ℕ) → k ≤ i → i < k + m → (full ≡ false → InRange i (get_or old (base + i) 0)) → InRange i (get_or then (base + i) 0)

module _ (full : Bool) (old : List ℕ) (base k at m : ℕ) (rows : List ℕ) (e : at ≡ base + k) (h : at + suc m ≤ length rows) (a : Ahead old rows at) where
  mid-ahead : {t mid : List ℕ} → FieldOnly full k at rows t mid → Ahead old mid (suc at)
  mid-ahead f i l = ap (λ (x : List ℕ). get_or x i 0) f.is ∙ get_or-set_other rows at i f.v 0 (λ q. omega arith) ∙ a i (omega arith)

  mid-length : {t mid : List ℕ} → FieldOnly full k at rows t mid → length mid ≡ length rows
  mid-length f = ap length f.is ∙ length-set rows at f.v

  fields_step : {t u mid then : List ℕ} → FieldOnly full k at rows t mid → FieldsOnly full old base (suc k) (suc at) m mid u then
      → FieldsOnly full old base k at (suc m) rows (t ++ u) then
  unfolding cells
  fields_step {t} {u} {mid} {then} f g = record {
    text = ap₂ (λ (x y : List ℕ). x ++ y) (f.text ∙ ap₂ (λ (x y : ℕ). listed full x y k) (a at (omega arith)) (sym here)) g.text;
    long = g.long ∙ mid-length f;
    out = λ i l. g.out i (λ n. let x = l (omega arith) in omega arith) ∙ ap (λ (x : List ℕ). get_or x i 0) f.is
        ∙ get_or-set_other rows at i f.v 0 (λ q. let x = l (omega arith) in omega arith);
    held = λ i l n p. by_eq i k
        (λ q. subst (λ (x : ℕ). InRange x (get_or then (base + x) 0)) (sym q) (rw (sym e, here) (f.held (λ z. rw (a at (omega arith), e, sym q) (p z)))))
        (λ q. g.held i (by_order i k (λ x. absurd (q (omega arith))) (λ x. x)) (omega arith) p);
  }
    where
      here : get_or then at 0 ≡ f.v
      here = g.out at (λ l. omega arith) ∙ ap (λ (x : List ℕ). get_or x at 0) f.is ∙ get_or-set_same rows at f.v 0 (omega arith)

fields_only : (full : Bool) (old : List ℕ) (base k at m : ℕ) (rows : List ℕ) → at ≡ base + k → at + m ≤ length rows → Ahead old rows at
    → Spells (fields_back full k at m rows) (λ t then r. FieldsOnly full old base k at m rows t then)
unfolding fields_back Spells cells
fields_only full old base k at zero rows e h a = λ r. record { text = refl; long = refl; out = λ i l. refl; held = λ i l g f. absurd (omega arith) }
fields_only full old base k at (suc m) rows e h a =
    s-then (field_back full k at rows) _ _ (field_only full k at rows) (λ t mid s f.
    let same = mid-length full old base k at m rows e h a f in
    s-then (fields_back full (suc k) (suc at) m mid) _ _
    (fields_only full old base (suc k) (suc at) m mid (omega arith) (omega arith) (mid-ahead full old base k at m rows e h a f))
    (λ u then r g q. fields_step full old base k at m rows e h a f g))

-- ---- an entry

record EntryOnly (full : Bool) (old : List ℕ) (j : ℕ) (rows t then : List ℕ) : Type 0 where
  text : t ≡ changes full old then j ++ (newline ∷ [])
  some_there : is_there (changes full old then j) ≡ true
  fields : FieldsOnly full old (record_bytes * j) 0 (record_bytes * j) record_bytes rows (changes full old then j) then

-- a comma in front of the end of the line
comma_there : (t s r : List ℕ) → comma ∷ r ≡ (t ++ (newline ∷ [])) ++ s → is_there t ≡ true
comma_there [] s r e = absurd (let z = ap (λ (x : List ℕ). get_or x 0 0) e in omega arith)
comma_there (c ∷ t) s r e = refl

entry_only : (full : Bool) (old : List ℕ) (j : ℕ) (rows : List ℕ) → record_bytes * j + record_bytes ≤ length rows → Ahead old rows (record_bytes * j)
    → Spells (entry_back full j rows) (λ t then r. EntryOnly full old j rows t then)
unfolding entry_back Spells
entry_only full old j rows h a = λ r0.
    s-then (fields_back full 0 (record_bytes * j) record_bytes rows) _ _ (fields_only full old (record_bytes * j) 0 (record_bytes * j) record_bytes rows (omega arith) h a)
    (λ t then s f r1 r2 q1 q2 q3.
    let is : t ≡ changes full old then j = f.text ∙ sym (changes-cells full old then j) in
    record {
      text = ap (λ (x : List ℕ). x ++ (newline ∷ [])) is;
      some_there = rw (sym is) (comma_there t r2 r0 q3);
      fields = record { text = changes-cells full old then j; long = f.long; out = f.out; held = f.held };
    })

-- ---- the entries

pub next_only : Spells next_object (λ t next r. t ≡ head_of next)
unfolding Spells
next_only = (λ v r l h. rw (ne_eqb v no_object (λ e. omega arith)), λ r. refl)

-- the cells of the same values are listed alike, and of values as before none is
cells_same : (full : Bool) (old now then : List ℕ) (k at m : ℕ) → ((i : ℕ) → at ≤ i → i < at + m → get_or now i 0 ≡ get_or then i 0)
    → cells full old now k at m ≡ cells full old then k at m
unfolding cells
cells_same full old now then k at zero h = refl
cells_same full old now then k at (suc m) h =
    ap₂ (λ (x y : List ℕ). x ++ y) (ap (λ (v : ℕ). listed full (get_or old at 0) v k) (h at (omega arith) (omega arith)))
    (cells_same full old now then (suc k) (suc at) m (λ i l g. h i (omega arith) (omega arith)))

cells_none : (old now : List ℕ) (k at m : ℕ) → ((i : ℕ) → at ≤ i → i < at + m → get_or now i 0 ≡ get_or old i 0) → cells false old now k at m ≡ []
unfolding cells
cells_none old now k at zero h = refl
cells_none old now k at (suc m) h =
    rw (eq-eqb (get_or old at 0) (get_or now at 0) (sym (h at (omega arith) (omega arith)))) (cells_none old now (suc k) (suc at) m (λ i l g. h i (omega arith) (omega arith)))

-- what was read of m objects from j on, the next entry being that of an object
pub record EntriesOnly (full : Bool) (old : List ℕ) (j m next : ℕ) (rows t then : List ℕ) : Type 0 where
  pub text : head_of next ++ t ≡ entries_of full old then j m
  pub long : length then ≡ length rows
  pub out : (i : ℕ) → (record_bytes * j ≤ i → record_bytes * (j + m) ≤ i) → get_or then i 0 ≡ get_or rows i 0
  pub held : (i k : ℕ) → j ≤ i → i < j + m → k < record_bytes → (full ≡ false → InRange k (cell old i k)) → InRange k (cell then i k)

module _ (full : Bool) (old : List ℕ) (j m : ℕ) (rows : List ℕ) (room : record_bytes * (j + suc m) ≤ length rows) (few : j + suc m ≤ no_object)
    (a : Ahead old rows (record_bytes * j)) where
  -- an entry, and those behind it
  entry_step : {next : ℕ} {t mid v then : List ℕ} → EntryOnly full old j rows t mid → EntriesOnly full old (suc j) m next mid v then
      → EntriesOnly full old j (suc m) j rows (t ++ (head_of next ++ v)) then
  unfolding texts from entry_line
  entry_step {next} {t} {mid} {v} {then} f g = record {
    text = sym (append_assoc (head_of j) t (head_of next ++ v)) ∙ ap₂ (λ (x y : List ℕ). x ++ y) (sym mine) g.text;
    long = g.long ∙ f.fields.long;
    out = λ i l. g.out i (λ n. let x = l (omega arith) in omega arith) ∙ f.fields.out i (λ n. let x = l n in omega arith);
    held = λ i k l h q p. by_eq i j
        (λ e. subst (λ (x : ℕ). (full ≡ false → InRange k (cell old x k)) → InRange k (cell then x k)) (sym e)
        (λ p. rw (stays (record_bytes * j + k) (omega arith)) (f.fields.held k (omega arith) (omega arith) p)) p)
        (λ e. g.held i k (by_order i j (λ x. absurd (e (omega arith))) (λ x. x)) (omega arith) q p);
  }
    where
      stays : (i : ℕ) → i < record_bytes * suc j → get_or then i 0 ≡ get_or mid i 0
      stays i l = g.out i (λ n. omega arith)

      same : changes full old then j ≡ changes full old mid j
      same = changes-cells full old then j
          ∙ cells_same full old then mid 0 (record_bytes * j) record_bytes (λ i l h. stays i (omega arith))
          ∙ sym (changes-cells full old mid j)

      mine : entry_line full old then j ≡ head_of j ++ t
      mine = rw (same, f.some_there, ne_eqb j no_object (λ e. omega arith), f.text)

  -- no entry
  skip_step : {next : ℕ} {t then : List ℕ} → full ≡ false → EntriesOnly full old (suc j) m next rows t then → EntriesOnly full old j (suc m) next rows t then
  unfolding texts from entry_line
  skip_step {next} {t} {then} z g = record {
    text = g.text ∙ ap (λ (x : List ℕ). x ++ entries_of full old then (suc j) m) (sym none-mine);
    long = g.long;
    out = λ i l. g.out i (λ n. let x = l (omega arith) in omega arith);
    held = λ i k l h q p. by_eq i j
        (λ e. subst (λ (x : ℕ). InRange k (cell old x k) → InRange k (cell then x k)) (sym e)
        (λ p. rw (stays (record_bytes * j + k) (omega arith) (omega arith)) p) (p z))
        (λ e. g.held i k (by_order i j (λ x. absurd (e (omega arith))) (λ x. x)) (omega arith) q p);
  }
    where
      stays : (i : ℕ) → record_bytes * j ≤ i → i < record_bytes * suc j → get_or then i 0 ≡ get_or old i 0
      stays i l h = g.out i (λ n. omega arith) ∙ a i l

      none-listed : changes full old then j ≡ []
      none-listed = changes-cells full old then j ∙ rw z (cells_none old then 0 (record_bytes * j) record_bytes (λ i l h. stays i l (omega arith)))

      none-mine : entry_line full old then j ≡ []
      none-mine = rw none-listed

pub entries_only : (full : Bool) (old : List ℕ) (j m next : ℕ) (rows : List ℕ) → record_bytes * (j + m) ≤ length rows → j + m ≤ no_object
    → Ahead old rows (record_bytes * j) → Spells (entries_back full j m next rows) (λ t then r. EntriesOnly full old j m next rows t then)
unfolding entries_back texts from
entries_only full old j zero next rows room few a =
    s-check (eqb next no_object) (give rows) _ (λ e. s-give rows _ (λ r.
    record { text = rw e; long = refl; out = λ i l. refl; held = λ i k l h q p. absurd (omega arith) }))
entries_only full old j (suc m) next rows room few a =
    s-pick (eqb next j) _ _ _
    (λ e.
    s-bind (entry_back full j rows) _ _ _ (entry_only full old j rows (omega arith) a) (λ t mid s f.
    let long = f.fields.long in
    s-bind next_object _ _ _ next_only (λ u next' s' g.
    s-then (entries_back full (suc j) m next' mid) _ _
    (entries_only full old (suc j) m next' mid (omega arith) (omega arith) (λ i l. f.fields.out i (λ n. omega arith) ∙ a i (omega arith)))
    (λ v then r x q q'. rw (eqb-true next j e, g) (entry_step full old j m rows room few a f x)))))
    (λ e.
    s-check (not full) (entries_back full (suc j) m next rows) _ (λ z.
    s-then (entries_back full (suc j) m next rows) _ _ (entries_only full old (suc j) m next rows (omega arith) (omega arith) (λ i l. a i (omega arith)))
    (λ t then r x. skip_step full old j m rows room few a (not-true full z) x)))
