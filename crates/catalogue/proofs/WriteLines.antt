-- The lines of a catalogue, from the pieces that they are laid by. Assumes nothing.
use mathlib.Core.Path.{◌≡◌, refl, sym, ◌∙◌}
use mathlib.Core.Bool.{Bool, true, false}
use mathlib.Core.List.{List, [], ◌∷◌, ◌++◌, append_assoc}
use Prim.Native.Nat.{ℕ, ◌+◌, ◌-◌, ◌<◌}
use borrow.Author.Tests.{eq-eqb, ne_eqb}
use Rattle.bits.specs.Language.{from}
use Rattle.oamd.specs.Tables.{record_bytes}
use Rattle.keys.specs.Names.{object_key}
use Rattle.text.specs.Numerals.{decimal}
use Rattle.text.specs.Lines.{texts, comma, newline}
use Rattle.text.specs.Laying.{Laid}
use Rattle.text.proofs.LayLaws.{laid-bind, laid_is}
use Rattle.text.proofs.LineLaws.{count_more}
use Rattle.catalogue.specs.Fields.{fields, field_of}
use Rattle.catalogue.specs.Sheets.{cell}
use Rattle.catalogue.specs.Text.{pair, pairs_line, listed, changes, is_there, entry_line}

-- ---- lines of two and of three pairs

pub two-laid : {s t u : List ℕ} {at p r : ℕ} (a b : List ℕ) → Laid s t at p (a ++ (comma ∷ [])) → Laid t u p r (b ++ (newline ∷ []))
    → Laid s u at r (pairs_line (a ∷ b ∷ []))
two-laid a b f g = laid_is (simp append_assoc) (laid-bind f g)

pub three-laid : {s t u v : List ℕ} {at p q r : ℕ} (a b c : List ℕ) → Laid s t at p (a ++ (comma ∷ [])) → Laid t u p q (b ++ (comma ∷ []))
    → Laid u v q r (c ++ (newline ∷ [])) → Laid s v at r (pairs_line (a ∷ b ∷ c ∷ []))
three-laid a b c f g h = laid_is (simp append_assoc) (laid-bind f (laid-bind g h))

-- ---- the fields that are listed

pub full-laid : {s t : List ℕ} {at r : ℕ} (full : Bool) (before now k : ℕ) → full ≡ true → Laid s t at r (comma ∷ pair (field_of k).key now)
    → Laid s t at r (listed full before now k)
full-laid full before now k e h = laid_is (rw e refl) h

pub other-laid : {s t : List ℕ} {at r : ℕ} (full : Bool) (before now k : ℕ) → full ≡ false → (before ≡ now → ⊥)
    → Laid s t at r (comma ∷ pair (field_of k).key now) → Laid s t at r (listed full before now k)
other-laid full before now k e d h = laid_is (rw (e, ne_eqb before now d) refl) h

pub same_none : (full : Bool) (before now k : ℕ) → full ≡ false → before ≡ now → listed full before now k ≡ []
same_none full before now k e d = rw (e, eq-eqb before now d) refl

-- byte k of object j
abbrev pub listed_at : Bool → List ℕ → List ℕ → ℕ → ℕ → List ℕ
listed_at full before now j k = listed full (cell before j k) (cell now j k) k

-- those from byte k on
abbrev pub listed_from : Bool → List ℕ → List ℕ → ℕ → ℕ → List ℕ
listed_from full before now j k = texts (listed_at full before now j) (from k (record_bytes - k))

pub listed_all : (full : Bool) (before now : List ℕ) (j : ℕ) → listed_from full before now j 0 ≡ changes full before now j
unfolding changes
listed_all full before now j = refl

module _ (full : Bool) (before now : List ℕ) (j : ℕ) where
  pub there-full : full ≡ true → is_there (changes full before now j) ≡ true
  unfolding changes texts from
  there-full e = rw e refl

  module _ (k : ℕ) (h : k < record_bytes) (e : full ≡ false) where
    pub there_other : (cell before j k ≡ cell now j k → ⊥) → is_there (listed_from full before now j k) ≡ true
    there_other d = rw (count_more (listed_at full before now j) record_bytes k h, e, ne_eqb (cell before j k) (cell now j k) d) refl

    pub there_same : cell before j k ≡ cell now j k → is_there (listed_from full before now j k) ≡ is_there (listed_from full before now j (k + 1))
    there_same d = rw (count_more (listed_at full before now j) record_bytes k h, same_none full (cell before j k) (cell now j k) k e d) refl

-- ---- an entry

module _ (full : Bool) (before now : List ℕ) (j : ℕ) where
  pub entry_none : (there : Bool) → there ≡ is_there (changes full before now j) → there ≡ false → entry_line full before now j ≡ []
  unfolding entry_line
  entry_none there e f = rw (sym e ∙ f) refl

  pub entry-laid : {s t u v w : List ℕ} {at p q o r : ℕ} (there : Bool) → there ≡ is_there (changes full before now j) → there ≡ true → Laid s t at p object_key
      → Laid t u p q (decimal j) → Laid u v q o (changes full before now j) → Laid v w o r (newline ∷ []) → Laid s w at r (entry_line full before now j)
  unfolding entry_line
  entry-laid there e f key number fields end =
      laid_is (sym (append_assoc object_key (decimal j) (changes full before now j ++ (newline ∷ []))) ∙ rw (sym e ∙ f) refl)
      (laid-bind key (laid-bind number (laid-bind fields end)))
