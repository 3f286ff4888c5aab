-- The keys of fields: none ends a line, and none stands where another does.
use Rattle.std.specs.Prelude.{◌≡◌, refl, Bool, true, false, List, [], ◌∷◌, ◌++◌, ℕ, ◌<◌, eqb}
use Rattle.std.proofs.lemmas.Bool.{false≢true}
use Rattle.std.proofs.Math.Option.{none}
use Rattle.bits.specs.Language.{pick}
use Rattle.form.specs.Lemmas.Tests.{all_below, below}
use Rattle.oamd.specs.Tables.{record_bytes}
use Rattle.text.specs.Lines.{comma, newline}
use Rattle.catalogue.specs.Fields.{fields, field_of}
use Rattle.catalogue.specs.Scan.{after, next_line}
use Rattle.catalogue.specs.Lemmas.Lines.{behind, InLine}

-- no line ends in a text
abbrev in_line : List ℕ → Bool
in_line [] = true
in_line (c ∷ s) = pick (eqb c newline) false (in_line s)

in-line : (s : List ℕ) → in_line s ≡ true → InLine s
unfolding behind
in-line [] h n = refl
in-line (c ∷ s) h n = go (eqb c newline) h (λ g m. in-line s g m)
  where
    go : (t : Bool) → pick t false (in_line s) ≡ true → (in_line s ≡ true → InLine s) → behind (pick t (next_line n) n) s ≡ n
    go true g f = absurd (false≢true g)
    go false g f = f g n

-- two words of which neither begins with the other
abbrev apart : List ℕ → List ℕ → Bool
apart [] s = false
apart (c ∷ w) [] = false
apart (c ∷ w) (x ∷ s) = pick (eqb x c) (apart w s) true

apart_none : (w t s : List ℕ) → apart w t ≡ true → after w (t ++ s) ≡ none
unfolding after
apart_none [] t s h = absurd (false≢true h)
apart_none (c ∷ w) [] s h = absurd (false≢true h)
apart_none (c ∷ w) (x ∷ t) s h = go (eqb x c) h (λ g. apart_none w t s g)
  where
    go : (b : Bool) → pick b (apart w t) true ≡ true → (apart w t ≡ true → after w (t ++ s) ≡ none) → pick b (after w (t ++ s)) none ≡ none
    go true g f = f g
    go false g f = refl

-- ---- by computation, for each field

abbrev key_in_line : ℕ → Bool
key_in_line k = in_line (comma ∷ (field_of k).key)

abbrev keys_apart : ℕ → ℕ → Bool
keys_apart k j = apart (comma ∷ (field_of j).key) (comma ∷ (field_of k).key)

keys_in-line : all_below record_bytes key_in_line ≡ true
unfolding fields field_of
keys_in-line = refl

keys-apart : all_below record_bytes (λ k. all_below k (keys_apart k)) ≡ true
unfolding fields field_of
keys-apart = refl

pub key_in-line : (k : ℕ) → k < record_bytes → InLine (comma ∷ (field_of k).key)
key_in-line k h = in-line (comma ∷ (field_of k).key) (below record_bytes key_in_line keys_in-line k h)

pub key_apart : (j k : ℕ) → j < k → k < record_bytes → (s : List ℕ) → after (comma ∷ (field_of j).key) ((comma ∷ (field_of k).key) ++ s) ≡ none
key_apart j k l h s =
    apart_none (comma ∷ (field_of j).key) (comma ∷ (field_of k).key) s
    (below k (keys_apart k) (below record_bytes (λ k. all_below k (keys_apart k)) keys-apart k h) j l)
