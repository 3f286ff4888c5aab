-- The numbers of lines: a reader counts the ends of lines that it takes, and the line that it answers stands behind as many.
use Rattle.std.specs.Prelude.{◌≡◌, refl, Bool, true, false, List, [], ◌∷◌, ◌++◌, ℕ, suc, ◌+◌, ◌≤◌, eqb, leb, length}
use Rattle.std.proofs.Common.{sym, ap, ◌∙◌, append_assoc, arith}
use Rattle.std.proofs.Math.Option.{Option, none, some}
use Rattle.bits.specs.Language.{pick}
use Rattle.text.specs.Numerals.{decimal}
use Rattle.text.specs.Lines.{newline}
use Rattle.text.specs.Laying.{last_position}
use Rattle.catalogue.specs.Scan.{Got, got, bad, S, give, fail, word, peek, number, end_line, whether, at_end}
use Rattle.catalogue.specs.Scan.{◌>>=◌, after, numeral, and_then, took, valued, seen, next_line, ended, ways, ends, run}
use Rattle.catalogue.specs.NumeralBack.{after_only, numeral_only}
use Rattle.catalogue.specs.Lemmas.Lines.{lines_in, behind, behind-append, behind_is, InLine, decimal_in-line}
use Rattle.catalogue.specs.Lemmas.Spells.{spelled}
use Rattle.catalogue.specs.Local.{Lined}

-- ---- how many there are

pub lines-append : (s t : List ℕ) → lines_in (s ++ t) ≡ lines_in s + lines_in t
unfolding lines_in
lines-append [] t = omega arith
lines-append (c ∷ s) t = go (eqb c newline) (lines-append s t)
  where
    go : (b : Bool) → lines_in (s ++ t) ≡ lines_in s + lines_in t → pick b (suc (lines_in (s ++ t))) (lines_in (s ++ t)) ≡ pick b (suc (lines_in s)) (lines_in s) + lines_in t
    go true e = omega arith
    go false e = e

pub lines_most : (s : List ℕ) → lines_in s ≤ length s
unfolding lines_in
lines_most [] = omega arith
lines_most (c ∷ s) = go (eqb c newline) (lines_most s)
  where
    go : (b : Bool) → lines_in s ≤ length s → pick b (suc (lines_in s)) (lines_in s) ≤ suc (length s)
    go true e = omega arith
    go false e = omega arith

-- ---- the law

pub bad-got : {A : Type 0} {k m : ℕ} {a : A} {r : List ℕ} → bad k ≡ got a m r → ⊥
bad-got h = let z : ◌≡◌ {A = ℕ} 0 1 = cc in omega arith

pub same_line : {A : Type 0} {j k : ℕ} → ◌≡◌ {A = Got A} (bad j) (bad k) → j ≡ k
same_line h = cc

-- What p comes to on a text goes by the line only as it is counted: it takes t, and gives a value with r left; or it breaks off behind t
pub data Outcome {A : Type 0} (p : S A) (s : List ℕ) : Type 0 where
  gave : (a : A) (t r : List ℕ) → s ≡ t ++ r → ((n : ℕ) → run p n s ≡ got a (behind n t) r) → Outcome p s
  broke : (t r : List ℕ) → s ≡ t ++ r → ((n : ℕ) → run p n s ≡ bad (behind n t)) → Outcome p s

-- behind a text that was taken first
joined : {A : Type 0} {p : S A} (q : S A) {r : List ℕ} (s t : List ℕ) → s ≡ t ++ r → ((n : ℕ) → run q n s ≡ run p (behind n t) r) → Outcome p r → Outcome q s
joined q s t e h (gave a u v f g) =
    gave a (t ++ u) v (e ∙ ap (λ (l : List ℕ). t ++ l) f ∙ sym (append_assoc t u v)) (λ n. h n ∙ g (behind n t) ∙ rw (behind-append n t u))
joined q s t e h (broke u v f g) =
    broke (t ++ u) v (e ∙ ap (λ (l : List ℕ). t ++ l) f ∙ sym (append_assoc t u v)) (λ n. h n ∙ g (behind n t) ∙ rw (behind-append n t u))

-- it takes nothing
there : {A : Type 0} (p : S A) (s : List ℕ) (a : A) → ((n : ℕ) → run p n s ≡ got a n s) → Outcome p s
unfolding behind
there p s a h = gave a [] s refl h

here : {A : Type 0} (p : S A) (s : List ℕ) → ((n : ℕ) → run p n s ≡ bad n) → Outcome p s
unfolding behind
here p s h = broke [] s refl h

word-outcome : (w s : List ℕ) → InLine w → (o : Option (List ℕ)) → after w s ≡ o → Outcome (word w) s
unfolding run
word-outcome w s h none e = here (word w) s (λ n. rw e)
word-outcome w s h (some r) e = gave tt w r (after_only w s r e) (λ n. rw (e, h n))

peek-outcome : (c : ℕ) (s : List ℕ) → Outcome (peek c) s
unfolding run
peek-outcome c [] = here (peek c) [] (λ n. refl)
peek-outcome c (x ∷ s) = go (eqb x c) refl
  where
    go : (t : Bool) → eqb x c ≡ t → Outcome (peek c) (x ∷ s)
    go true e = there (peek c) (x ∷ s) tt (λ n. rw e)
    go false e = here (peek c) (x ∷ s) (λ n. rw e)

end-outcome : (s : List ℕ) → Outcome end_line s
unfolding run behind
end-outcome [] = here end_line [] (λ n. refl)
end-outcome (x ∷ s) = go (eqb x newline) refl
  where
    go : (t : Bool) → eqb x newline ≡ t → Outcome end_line (x ∷ s)
    go true e = gave tt (x ∷ []) s refl (λ n. rw e)
    go false e = here end_line (x ∷ s) (λ n. rw e)

number-outcome : (least most : ℕ) (s : List ℕ) (o : Option (ℕ × List ℕ)) → numeral most s ≡ o → Outcome (number least most) s
unfolding run
number-outcome least most s none e = here (number least most) s (λ n. rw e)
number-outcome least most s (some (v, r)) e = go (leb least v) refl
  where
    go : (t : Bool) → leb least v ≡ t → Outcome (number least most) s
    go true f = gave v (decimal v) r (numeral_only most v s r e).0 (λ n. rw (e, f, decimal_in-line v n))
    go false f = here (number least most) s (λ n. rw (e, f))

whether-outcome : {A : Type 0} (w : List ℕ) (p q : S A) (s : List ℕ) → InLine w → (o : Option (List ℕ)) → after w s ≡ o → ((r : List ℕ) → Outcome p r) → Outcome q s
    → Outcome (whether w p q) s
unfolding run behind
whether-outcome w p q s h none e f g = joined (whether w p q) s [] refl (λ n. rw e) g
whether-outcome w p q s h (some r) e f g = joined (whether w p q) s w (after_only w s r e) (λ n. rw (e, h n)) (f r)

at_end-outcome : {A : Type 0} (p q : S A) (s : List ℕ) → Outcome p s → Outcome q s → Outcome (at_end p q) s
unfolding run behind
at_end-outcome p q [] f g = joined (at_end p q) [] [] refl (λ n. refl) f
at_end-outcome p q (x ∷ s) f g = joined (at_end p q) (x ∷ s) [] refl (λ n. refl) g

bind-outcome : {A B : Type 0} (p : S A) (k : A → S B) (s : List ℕ) → Outcome p s → ((a : A) (n m : ℕ) (r : List ℕ) → run p n s ≡ got a m r → Outcome (k a) r) → Outcome (p >>= k) s
unfolding run
bind-outcome p k s (gave a t r e f) g = joined (p >>= k) s t e (λ n. rw (f n)) (g a 0 (behind 0 t) r (f 0))
bind-outcome p k s (broke t r e f) g = broke t r e (λ n. rw (f n))

pub outcome : {A : Type 0} (p : S A) (Z : S A → Type 0) → Lined p Z → (s : List ℕ) → Outcome p s
unfolding run Lined
outcome (give a) Z h s = there (give a) s a (λ n. refl)
outcome fail Z h s = here fail s (λ n. refl)
outcome (word w) Z h s = word-outcome w s h (after w s) refl
outcome (peek c) Z h s = peek-outcome c s
outcome (number least most) Z h s = number-outcome least most s (numeral most s) refl
outcome end_line Z h s = end-outcome s
outcome (whether w p q) Z h s = whether-outcome w p q s h.0 (after w s) refl (λ r. outcome p Z h.1 r) (outcome q Z h.2 s)
outcome (at_end p q) Z h s = at_end-outcome p q s (outcome p Z h.0 s) (outcome q Z h.1 s)
outcome (p >>= k) Z h s = bind-outcome p k s (outcome p _ h.0 s) (λ a n m r e. outcome (k a) Z (spelled p _ h.1 n s e).holds r)

-- the line that is bad is one of the text's, or the one behind them
pub bad-within : {A : Type 0} (p : S A) (Z : S A → Type 0) → Lined p Z → (n : ℕ) (s : List ℕ) {k : ℕ} → run p n s ≡ bad k → n + length s ≤ last_position
    → (n ≤ k) × (k ≤ n + lines_in s)
bad-within p Z h n s {k} e l = go (outcome p Z h s)
  where
    go : Outcome p s → (n ≤ k) × (k ≤ n + lines_in s)
    go (gave a t r f g) = absurd (bad-got (sym e ∙ g n))
    go (broke t r f g) =
        let same : k ≡ behind n t = same_line (sym e ∙ g n) in
        let c = behind_is n t (omega arith) in
        let m = lines-append t r in
        let i = ap lines_in f in
        let j = lines_most s in
        (omega arith, omega arith)

-- ---- without a condition on words

-- the number of the line does not fall
abbrev Rises : {A : Type 0} → ℕ → Got A → Type 0
Rises n (got a m r) = (n ≤ m) × (m ≤ last_position)
Rises n (bad k) = n ≤ k

module _ {A : Type 0} where
  stays_there : (n : ℕ) → n ≤ last_position → (t : Bool) (a : A) (s : List ℕ) → Rises {A = A} n (pick t (got a n s) (bad n))
  stays_there n l true a s = (omega arith, l)
  stays_there n l false a s = omega arith

  ways-rise : (n : ℕ) (o : Option (List ℕ)) (there : List ℕ → Got A) (other : Got A) → ((r : List ℕ) → Rises n (there r)) → Rises n other → Rises n (ways o there other)
  ways-rise n none there other f g = g
  ways-rise n (some r) there other f g = f r

  ends-rise : (n : ℕ) (s : List ℕ) (end other : Got A) → Rises n end → Rises n other → Rises n (ends s end other)
  ends-rise n [] end other f g = f
  ends-rise n (x ∷ s) end other f g = g

  risen : (x : Got A) (n m : ℕ) → n ≤ m → Rises m x → Rises n x
  risen (got a i r) n m l h = let g = h.0 in (omega arith, h.1)
  risen (bad k) n m l h = omega arith

  then-rises : {B : Type 0} (n : ℕ) (x : Got B) (k : B → ℕ → List ℕ → Got A) → Rises n x → ((b : B) (m : ℕ) (r : List ℕ) → m ≤ last_position → Rises m (k b m r)) → Rises n (and_then x k)
  then-rises n (got b m r) k h f = risen (k b m r) n m h.0 (f b m r h.1)
  then-rises n (bad j) k h f = h

took-rises : (n : ℕ) (o : Option (List ℕ)) → n ≤ last_position → Rises n (took n o)
took-rises n none l = omega arith
took-rises n (some r) l = (omega arith, l)

seen-rises : (n c : ℕ) (s : List ℕ) → n ≤ last_position → Rises n (seen n c s)
seen-rises n c [] l = omega arith
seen-rises n c (x ∷ s) l = stays_there n l (eqb x c) tt (x ∷ s)

valued-rises : (n least : ℕ) (o : Option (ℕ × List ℕ)) → n ≤ last_position → Rises n (valued n least o)
valued-rises n least none l = omega arith
valued-rises n least (some (v, r)) l = stays_there n l (leb least v) v r

ended-rises : (n : ℕ) (s : List ℕ) → n ≤ last_position → Rises n (ended n s)
ended-rises n [] l = omega arith
ended-rises n (x ∷ s) l = go (eqb x newline)
  where
    go : (t : Bool) → Rises {A = Unit {0}} n (pick t (got tt (next_line n) s) (bad n))
    go true = (omega arith, omega arith)
    go false = omega arith

rises : {A : Type 0} (p : S A) (n : ℕ) (s : List ℕ) → n ≤ last_position → Rises n (run p n s)
unfolding run
rises (give a) n s l = (omega arith, l)
rises fail n s l = omega arith
rises (word w) n s l = took-rises n (after w s) l
rises (peek c) n s l = seen-rises n c s l
rises (number least most) n s l = valued-rises n least (numeral most s) l
rises end_line n s l = ended-rises n s l
rises (whether w p q) n s l = ways-rise n (after w s) (λ r. run p n r) (run q n s) (λ r. rises p n r l) (rises q n s l)
rises (at_end p q) n s l = ends-rise n s (run p n s) (run q n s) (rises p n s l) (rises q n s l)
rises (p >>= k) n s l = then-rises n (run p n s) (λ a m r. run (k a) m r) (rises p n s l) (λ a m r i. rises (k a) m r i)

pub bad-behind : {A : Type 0} (p : S A) (n : ℕ) (s : List ℕ) {k : ℕ} → n ≤ last_position → run p n s ≡ bad k → n ≤ k
bad-behind p n s l e = rw e at (rises p n s l)
