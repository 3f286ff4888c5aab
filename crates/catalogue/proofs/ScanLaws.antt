-- The smallest steps of reading a text, by what stands where the reader stands, and steps one behind the other. Assumes nothing.
use Rattle.std.specs.Prelude.{◌≡◌, Bool, true, false, List, [], ◌∷◌, ℕ, length, take, drop, eqb, ◌&&◌, Some, None, Result, Ok, Err}
use Rattle.std.proofs.Common.{refl, ap, ◌∙◌}
use lib.Pointwise.{pointwise}
use Rattle.bits.specs.Language.{pick}
use Rattle.std.proofs.Math.Option.{none, some}
use Rattle.catalogue.specs.declared.Reader.{Reader}
use Rattle.catalogue.specs.declared.BadLine.{BadLine}
use Rattle.catalogue.specs.Scan.{Got, S, whether, ◌>>=◌, after, and_then, run}
use Rattle.catalogue.specs.Parts.{Behind, came, goes, runs}

after_by : (w s : List ℕ) → after w s ≡ pick (pointwise eqb (take (length w) s) w) (some (drop (length w) s)) none
unfolding after
after_by [] s = refl
after_by (c ∷ cs) [] = refl
after_by (c ∷ cs) (x ∷ s) = go (eqb x c) (after_by cs s)
  where
    go : (t : Bool) → after cs s ≡ pick (pointwise eqb (take (length cs) s) cs) (some (drop (length cs) s)) none
        → pick t (after cs s) none ≡ pick (t && pointwise eqb (take (length cs) s) cs) (some (drop (length cs) s)) none
    go true e = e
    go false e = refl

-- a word stands where a text begins with it
pub stands : (w s x : List ℕ) → pointwise eqb (take (length w) s) w ≡ true → x ≡ drop (length w) s → after w s ≡ some x
stands w s x h e = after_by w s ∙ rw (h, e)

pub missing : (w s : List ℕ) → pointwise eqb (take (length w) s) w ≡ false → after w s ≡ none
missing w s h = after_by w s ∙ rw h

-- ---- one step after another: what the first came to, and what the steps behind it make of that

pub bind : {A B C : Type 0} (f : C → A) (r r' : Reader) (p : S A) (k : A → S B) (t : Result C BadLine) {y : Got B}
    → came f t r' ≡ runs r p → y ≡ goes (λ c. k (f c)) t r' → y ≡ runs r (p >>= k)
unfolding run
bind f r r' p k (Ok c) e g = g ∙ ap (λ x. and_then x (λ a m rest. run (k a) m rest)) e
bind f r r' p k (Err b) e g = g ∙ ap (λ x. and_then x (λ a m rest. run (k a) m rest)) e

-- ---- one way behind a word, and else another

module _ {A : Type 0} (r : Reader) (w : List ℕ) (p q : S A) {y : Got A} where
  -- the word stood
  pub this-way : (x : Reader) → Behind w r (Some x) → y ≡ runs x p → y ≡ runs r (whether w p q)
  unfolding run
  this-way x h g = rw h.0 (g ∙ ap (λ (n : ℕ). run p n x.rest.now) h.1)

  -- it did not
  pub other_way : Behind w r None → y ≡ runs r q → y ≡ runs r (whether w p q)
  unfolding run
  other_way h g = rw h g
