-- The laws of laying: nothing, one after the other, a loop, and at the top the buffer that a whole text was laid into. Assumes nothing.
use mathlib.Core.Path.{◌≡◌, refl, sym, ap, ap₂, ◌∙◌, subst}
use mathlib.Core.List.{List, [], ◌∷◌, ◌++◌}
use Prim.Native.Nat.{ℕ, suc, ◌+◌, ◌≤◌, ◌<◌}
use native.Mathlib.Numerals.{add-one}
use native.Mathlib.Omega.{arith}
use lib.ListN.{length, get_or, set, drop, length-append, drop_of_length-le}
use lib.Seq.{sets, drop-cons, set_out, length-sets}
use Rattle.bits.specs.Steps.{by_order}
use Rattle.text.specs.Lines.{texts}
use Rattle.text.specs.Laying.{last_position, capped, Laid}

sets-append : (s : List ℕ) (at : ℕ) (l m : List ℕ) → sets (sets s at l) (at + length l) m ≡ sets s at (l ++ m)
sets-append s at [] m = ap (λ (k : ℕ). sets s k m) (omega arith)
sets-append s at (x ∷ xs) m = ap (λ (k : ℕ). sets (sets (set s at x) (suc at) xs) k m) (omega arith) ∙ sets-append (set s at x) (suc at) xs m

-- past the buffer's end nothing is laid
sets-past : (s : List ℕ) (at : ℕ) (l : List ℕ) → length s ≤ at → sets s at l ≡ s
sets-past s at [] h = refl
sets-past s at (x ∷ xs) h = ap (λ (t : List ℕ). sets t (suc at) xs) (set_out s at x h) ∙ sets-past s (suc at) xs (omega arith)

-- so it is all the same where behind the end the position stands
sets-capped : (s : List ℕ) (at : ℕ) (l : List ℕ) → length s ≤ last_position → sets s (capped at) l ≡ sets s at l
sets-capped s at l h =
    by_order at last_position
    (λ j. ap (λ (k : ℕ). sets s k l) (omega arith))
    (λ j. sets-past s (capped at) l (omega arith) ∙ sym (sets-past s at l (omega arith)))

pub laid_nil : {s : List ℕ} {at : ℕ} → length s ≤ last_position → at ≤ last_position → Laid s s at at []
laid_nil h j = record { same = refl; next = omega arith; room = h }

pub laid-length : {s t : List ℕ} {at r : ℕ} {l : List ℕ} → Laid s t at r l → length t ≡ length s
laid-length {s} {t} {at} {r} {l} h = ap length h.same ∙ length-sets s at l

pub laid-bind : {s t u : List ℕ} {at p r : ℕ} {l m : List ℕ} → Laid s t at p l → Laid t u p r m → Laid s u at r (l ++ m)
laid-bind {s} {t} {u} {at} {p} {r} {l} {m} f g =
    let long : length (sets s at l) ≡ length s = length-sets s at l in
    let room = f.room in
    record {
      same =
          g.same ∙ ap₂ (λ (x : List ℕ) (k : ℕ). sets x k m) f.same f.next
          ∙ sets-capped (sets s at l) (at + length l) m (omega arith)
          ∙ sets-append s at l m;
      next = omega (arith, f.next, g.next, length-append l m);
      room = room;
    }

-- the same bytes, said in another way
pub laid_is : {s t : List ℕ} {at r : ℕ} {l m : List ℕ} → l ≡ m → Laid s t at r l → Laid s t at r m
laid_is {s} {t} {at} {r} e h = subst (λ (x : List ℕ). Laid s t at r x) e h

-- the same rule for `search`
pub lay-then : (s t u : List ℕ) (at p r : ℕ) (l m : List ℕ) → Laid s t at p l → Laid t u p r m → Laid s u at r (l ++ m)
lay-then s t u at p r l m f g = laid-bind f g

-- a loop's invariant: whoever lays m from here has laid l from the start
pub record Rest (s₀ s : List ℕ) (p₀ p : ℕ) (l m : List ℕ) : Type 0 where
  pub ends : (u : List ℕ) (r : ℕ) → Laid s u p r m → Laid s₀ u p₀ r l
  pub room : length s ≤ last_position
  pub far : p ≤ last_position
  pub long : length s ≡ length s₀

pub rest_start : {s : List ℕ} {p : ℕ} {l m : List ℕ} → m ≡ l → length s ≤ last_position → p ≤ last_position → Rest s s p p l m
rest_start e h j = record { ends = λ u r g. laid_is e g; room = h; far = j; long = refl }

pub rest_step : {s₀ s t : List ℕ} {p₀ p q : ℕ} {l m : List ℕ} (a n : List ℕ) → m ≡ a ++ n → Rest s₀ s p₀ p l m → Laid s t p q a → Rest s₀ t p₀ q l n
rest_step a n e f h =
    let long = laid-length h in
    record {
      ends = λ u r g. f.ends u r (laid_is (sym e) (laid-bind h g));
      room = omega (arith, f.room);
      far = omega (arith, h.next);
      long = long ∙ f.long;
    }

pub rest_end : {s₀ s : List ℕ} {p₀ p : ℕ} {l m : List ℕ} → m ≡ [] → Rest s₀ s p₀ p l m → Laid s₀ s p₀ p l
rest_end e f = f.ends _ _ (laid_is (sym e) (laid_nil f.room f.far))

-- ---- texts of the entries of a list

-- one more
pub texts_more : {A : Type 0} (f : A → List ℕ) (xs : List A) (i : ℕ) (d : A) → i < length xs
    → texts f (drop i xs) ≡ f (get_or xs i d) ++ texts f (drop (i + 1) xs)
unfolding texts
texts_more f xs i d h = ap (texts f) (drop-cons xs i d h) ∙ rw add-one

-- none left
pub texts_none : {A : Type 0} (f : A → List ℕ) (xs : List A) (i : ℕ) → length xs ≤ i → texts f (drop i xs) ≡ []
unfolding texts
texts_none f xs i h = ap (texts f) (drop_of_length-le xs h)

-- bytes are their own text
pub texts-bytes : (bytes : List ℕ) → texts (λ b. b ∷ []) bytes ≡ bytes
unfolding texts
texts-bytes [] = refl
texts-bytes (b ∷ bytes) = ap (λ (l : List ℕ). b ∷ l) (texts-bytes bytes)
