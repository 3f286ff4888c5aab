-- The cells of rows, byte by byte: what is listed of them, and rows into which those of others are laid.
use Rattle.std.specs.Prelude.{◌≡◌, refl, Bool, true, false, not, List, [], ◌∷◌, ◌++◌, ℕ, zero, suc, ◌+◌, ◌*◌, ◌≤◌, ◌<◌, eqb, length, get_or, set}
use Rattle.std.proofs.Common.{sym, ap, ap₂, ◌∙◌, true≢false, arith, length-set, get_or-set_same, get_or-set_other, ext_get_or, eqb-true}
use Rattle.std.proofs.lemmas.List.{set-get_or}
use Rattle.std.proofs.lemmas.Bool.{not-false}
use Rattle.bits.specs.Language.{pick, from}
use Rattle.bits.specs.Steps.{by_order}
use Rattle.form.specs.Lemmas.Tests.{by_eq}
use Rattle.oamd.specs.Tables.{record_bytes}
use Rattle.text.specs.Lines.{texts, comma}
use Rattle.catalogue.specs.Fields.{field_of}
use Rattle.catalogue.specs.Sheets.{cell}
use Rattle.catalogue.specs.Text.{pair, listed, changes, is_there}

-- whether a value is listed
abbrev pub is_listed : Bool → ℕ → ℕ → Bool
is_listed full before now = pick full true (not (eqb before now))

-- what is listed of m cells from byte k of a row on, which stands at a place of the rows
unfoldable pub cells : Bool → List ℕ → List ℕ → ℕ → ℕ → ℕ → List ℕ
cells full old now k at zero = []
cells full old now k at (suc m) = listed full (get_or old at 0) (get_or now at 0) k ++ cells full old now (suc k) (suc at) m

-- of a whole row
pub changes-cells : (full : Bool) (old now : List ℕ) (j : ℕ) → changes full old now j ≡ cells full old now 0 (record_bytes * j) record_bytes
unfolding changes texts from cells
changes-cells full old now j = go 0 (record_bytes * j) record_bytes (omega arith)
  where
    go : (k at m : ℕ) → at ≡ record_bytes * j + k → texts (λ k. listed full (cell old j k) (cell now j k) k) (from k m) ≡ cells full old now k at m
    go k at zero e = refl
    go k at (suc m) e = ap₂ (λ (x y : List ℕ). x ++ y) (ap (λ (i : ℕ). listed full (get_or old i 0) (get_or now i 0) k) (sym e)) (go (suc k) (suc at) m (omega arith))

-- ---- cells of which nothing is listed

-- not listed, a value is as before
pub not_listed : (full : Bool) (a b : ℕ) → is_listed full a b ≡ false → (full ≡ false) × (a ≡ b)
not_listed true a b h = absurd (true≢false h)
not_listed false a b h = (refl, eqb-true a b (not-false (eqb a b) h))

-- nothing is there
pub there : (s : List ℕ) → is_there s ≡ false → s ≡ []
there [] h = refl
there (c ∷ s) h = absurd (true≢false h)

pub both_none : (s t : List ℕ) → s ++ t ≡ [] → (s ≡ []) × (t ≡ [])
both_none [] t h = (refl, h)
both_none (c ∷ s) t h = absurd (let z : ◌≡◌ {A = ℕ} 0 1 = cc in omega arith)

pub listed_none : (full : Bool) (a b k : ℕ) → listed full a b k ≡ [] → is_listed full a b ≡ false
listed_none full a b k h = go (is_listed full a b) refl
  where
    go : (t : Bool) → is_listed full a b ≡ t → t ≡ false
    go true q = absurd (let z : ◌≡◌ {A = ℕ} 0 1 = (let e : comma ∷ pair (field_of k).key b ≡ [] = (rw q at h) in cc) in omega arith)
    go false q = refl

-- ---- rows behind so many cells from a place on: those of now, laid into them

unfoldable pub laid : List ℕ → List ℕ → ℕ → ℕ → List ℕ
laid rows now at zero = rows
laid rows now at (suc m) = laid (set rows at (get_or now at 0)) now (suc at) m

pub laid-length : (rows now : List ℕ) (at m : ℕ) → length (laid rows now at m) ≡ length rows
unfolding laid
laid-length rows now at zero = refl
laid-length rows now at (suc m) = laid-length (set rows at (get_or now at 0)) now (suc at) m ∙ length-set rows at (get_or now at 0)

-- every other cell is as it was
pub laid_out : (rows now : List ℕ) (at m i : ℕ) → (at ≤ i → at + m ≤ i) → get_or (laid rows now at m) i 0 ≡ get_or rows i 0
unfolding laid
laid_out rows now at zero i h = refl
laid_out rows now at (suc m) i h =
    laid_out (set rows at (get_or now at 0)) now (suc at) m i (λ l. let g = h (omega arith) in omega arith)
    ∙ get_or-set_other rows at i (get_or now at 0) 0 (λ e. let g = h (omega arith) in omega arith)

pub laid_in : (rows now : List ℕ) (at m i : ℕ) → at ≤ i → i < at + m → i < length rows → get_or (laid rows now at m) i 0 ≡ get_or now i 0
unfolding laid
laid_in rows now at zero i l h j = absurd (omega arith)
laid_in rows now at (suc m) i l h j =
    let v = get_or now at 0 in
    by_eq i at
    (λ e. rw e (laid_out (set rows at v) now (suc at) m at (λ l. omega arith) ∙ get_or-set_same rows at v 0 (omega arith)))
    (λ e. laid_in (set rows at v) now (suc at) m i (by_order i at (λ f. absurd (e (omega arith))) (λ f. f)) (omega arith) (rw (length-set rows at v) j))

pub laid_all : (rows now : List ℕ) (n : ℕ) → length rows ≡ n → length now ≡ n → laid rows now 0 n ≡ now
laid_all rows now n e f =
    let l = laid-length rows now 0 n in
    ext_get_or 0 (laid rows now 0 n) now (omega arith) (λ i h. laid_in rows now 0 n i (omega arith) (omega arith) (omega arith))

pub laid-add : (rows now : List ℕ) (at a b : ℕ) → laid rows now at (a + b) ≡ laid (laid rows now at a) now (at + a) b
unfolding laid
laid-add rows now at zero b =
    let e : 0 + b ≡ b = omega arith in
    let f : at + 0 ≡ at = omega arith in
    rw (e, f)
laid-add rows now at (suc a) b =
    let e : suc a + b ≡ suc (a + b) = omega arith in
    let f : at + suc a ≡ suc at + a = omega arith in
    rw (e, f) (laid-add (set rows at (get_or now at 0)) now (suc at) a b)

-- where nothing is listed, the rows stay
pub laid_none : (full : Bool) (old now rows : List ℕ) (k at m : ℕ) → ((i : ℕ) → at ≤ i → get_or rows i 0 ≡ get_or old i 0) → cells full old now k at m ≡ []
    → laid rows now at m ≡ rows
unfolding laid cells
laid_none full old now rows k at zero a h = refl
laid_none full old now rows k at (suc m) a h =
    let g = both_none _ _ h in
    let e = (not_listed full (get_or old at 0) (get_or now at 0) (listed_none full (get_or old at 0) (get_or now at 0) k g.0)).1 in
    let same : set rows at (get_or now at 0) ≡ rows = ap (set rows at) (sym e ∙ sym (a at (omega arith))) ∙ set-get_or rows at 0 in
    rw same (laid_none full old now rows (suc k) (suc at) m (λ i l. a i (omega arith)) g.1)
