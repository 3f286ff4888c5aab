-- Which text a reader takes for the value that it gives: one theorem, and a rule for each step.
use Rattle.std.specs.Prelude.{◌≡◌, refl, Bool, true, false, List, [], ◌∷◌, ◌++◌, ℕ, ◌≤◌, eqb, leb, length}
use Rattle.std.proofs.Common.{sym, ap, ◌∙◌, subst, append_assoc, arith, length-append, eqb-true, leb-true}
use Rattle.std.proofs.Math.Option.{Option, none, some}
use Rattle.bits.specs.Language.{pick}
use Rattle.text.specs.Numerals.{decimal}
use Rattle.text.specs.Lines.{newline}
use Rattle.catalogue.specs.Scan.{S, give, fail, word, peek, number, end_line, whether, at_end, ◌>>=◌}
use Rattle.catalogue.specs.Scan.{Got, got, bad, after, numeral, and_then, took, valued, seen, ended, ways, ends, next_line, run}
use Rattle.catalogue.specs.Back.{check}
use Rattle.catalogue.specs.NumeralBack.{after_only, numeral_only}

-- Q holds of the text that p takes, of what it gives for it, and of the text behind
unfoldable pub Spells : {A : Type 0} → S A → (List ℕ → A → List ℕ → Type 0) → Type 0
Spells (give a) Q = (r : List ℕ) → Q [] a r
Spells fail Q = Unit {0}
Spells (word w) Q = (r : List ℕ) → Q w tt r
Spells (peek c) Q = (r : List ℕ) → Q [] tt (c ∷ r)
Spells (number least most) Q = (v : ℕ) (r : List ℕ) → least ≤ v → v ≤ most → Q (decimal v) v r
Spells end_line Q = (r : List ℕ) → Q (newline ∷ []) tt r
Spells (whether w p q) Q = Spells p (λ t a r. Q (w ++ t) a r) × Spells q Q
Spells (at_end p q) Q = Spells p (λ t a r. t ++ r ≡ [] → Q t a r) × Spells q Q
Spells (p >>= k) Q = Spells p (λ t a s. Spells (k a) (λ u b r. s ≡ u ++ r → Q (t ++ u) b r))

-- ---- an accepted step taken apart

bad-got : {A : Type 0} {n m : ℕ} {a : A} {r : List ℕ} → bad n ≡ got a m r → ⊥
bad-got h = let z : ◌≡◌ {A = ℕ} 0 1 = cc in omega arith

pick-got : {A : Type 0} (t : Bool) (g : Got A) (n : ℕ) {a : A} {m : ℕ} {r : List ℕ} → pick t g (bad n) ≡ got a m r → (t ≡ true) × (g ≡ got a m r)
pick-got true g n h = (refl, h)
pick-got false g n h = absurd (bad-got h)

-- the text that was taken stands in front of what is left
pub record Spelled {A : Type 0} (Q : List ℕ → A → List ℕ → Type 0) (s : List ℕ) (a : A) (r : List ℕ) : Type 0 where
  pub text : List ℕ
  pub whole : s ≡ text ++ r
  pub holds : Q text a r

module _ {A : Type 0} (Q : List ℕ → A → List ℕ → Type 0) where
  give-spelled : (b : A) (n : ℕ) (s : List ℕ) {a : A} {m : ℕ} {r : List ℕ} → ((r : List ℕ) → Q [] b r) → got b n s ≡ got a m r → Spelled Q s a r
  give-spelled b n s {a} {m} {r} h e =
      let v : b ≡ a = cc in
      record { text = []; whole = cc; holds = subst (λ (x : A). Q [] x r) v (h r) }

  spelled-join : {B : Type 0} {R : List ℕ → B → List ℕ → Type 0} {s u r : List ℕ} {a : A} {b : B} (x : Spelled R s b u) (t : List ℕ) → u ≡ t ++ r
      → Q (x.text ++ t) a r → Spelled Q s a r
  spelled-join {r = r} x t e h =
      record { text = x.text ++ t; whole = x.whole ∙ ap (λ (y : List ℕ). x.text ++ y) e ∙ sym (append_assoc x.text t r); holds = h }

  ways-spelled : (w : List ℕ) (s : List ℕ) (o : Option (List ℕ)) (f : List ℕ → Got A) (g : Got A) {a : A} {m : ℕ} {r : List ℕ} → after w s ≡ o
      → ((u : List ℕ) → f u ≡ got a m r → Spelled (λ t a r. Q (w ++ t) a r) u a r) → (g ≡ got a m r → Spelled Q s a r) → ways o f g ≡ got a m r
      → Spelled Q s a r
  ways-spelled w s none f g e there here h = here h
  ways-spelled w s (some u) f g e there here h =
      let x = there u h in
      let word : Spelled {A = Unit {0}} (λ t b r. Unit {0}) s tt u = record { text = w; whole = after_only w s u e; holds = tt } in
      spelled-join {b = tt} word x.text x.whole x.holds

  ends-spelled : (s : List ℕ) (f g : Got A) {a : A} {m : ℕ} {r : List ℕ} → (f ≡ got a m r → Spelled (λ t a r. t ++ r ≡ [] → Q t a r) s a r)
      → (g ≡ got a m r → Spelled Q s a r) → ends s f g ≡ got a m r → Spelled Q s a r
  ends-spelled [] f g end here h = let x = end h in record { text = x.text; whole = x.whole; holds = x.holds (sym x.whole) }
  ends-spelled (c ∷ s) f g end here h = here h

word-spelled : (Q : List ℕ → Unit {0} → List ℕ → Type 0) (w s : List ℕ) (n : ℕ) (o : Option (List ℕ)) {a : Unit {0}} {m : ℕ} {r : List ℕ} → after w s ≡ o
    → ((r : List ℕ) → Q w tt r) → took n o ≡ got a m r → Spelled Q s a r
word-spelled Q w s n none e h g = absurd (bad-got g)
word-spelled Q w s n (some u) {r = r} e h g = let x : u ≡ r = cc in record { text = w; whole = after_only w s r (cc); holds = h r }

peek-spelled : (Q : List ℕ → Unit {0} → List ℕ → Type 0) (c : ℕ) (s : List ℕ) (n : ℕ) {a : Unit {0}} {m : ℕ} {r : List ℕ}
    → ((r : List ℕ) → Q [] tt (c ∷ r)) → seen n c s ≡ got a m r → Spelled Q s a r
peek-spelled Q c [] n h g = absurd (bad-got g)
peek-spelled Q c (x ∷ s) n {a} {m} {r} h g =
    let y = pick-got (eqb x c) (got tt n (x ∷ s)) n g in
    let z = y.1 in
    let e : x ∷ s ≡ r = cc in
    let d : c ∷ s ≡ r = ap (λ (b : ℕ). b ∷ s) (sym (eqb-true x c y.0)) ∙ e in
    record { text = []; whole = e; holds = subst (λ (u : List ℕ). Q [] tt u) d (h s) }

end-spelled : (Q : List ℕ → Unit {0} → List ℕ → Type 0) (s : List ℕ) (n : ℕ) {a : Unit {0}} {m : ℕ} {r : List ℕ}
    → ((r : List ℕ) → Q (newline ∷ []) tt r) → ended n s ≡ got a m r → Spelled Q s a r
end-spelled Q [] n h g = absurd (bad-got g)
end-spelled Q (x ∷ s) n {a} {m} {r} h g =
    let y = pick-got (eqb x newline) (got tt (next_line n) s) n g in
    let z = y.1 in
    let e : s ≡ r = cc in
    record { text = newline ∷ []; whole = ap (λ (b : ℕ). b ∷ s) (eqb-true x newline y.0) ∙ ap (λ (u : List ℕ). newline ∷ u) e; holds = h r }

number_spelled : (Q : List ℕ → ℕ → List ℕ → Type 0) (least most n : ℕ) (s : List ℕ) (o : Option (ℕ × List ℕ)) {a m : ℕ} {r : List ℕ} → numeral most s ≡ o
    → ((v : ℕ) (r : List ℕ) → least ≤ v → v ≤ most → Q (decimal v) v r) → valued n least o ≡ got a m r → Spelled Q s a r
number_spelled Q least most n s none e h g = absurd (bad-got g)
number_spelled Q least most n s (some (v, u)) {a} {m} {r} e h g =
    let y = pick-got (leb least v) (got v n u) n g in
    let z = y.1 in
    let v-is : v ≡ a = cc in
    let u-is : u ≡ r = cc in
    let x = numeral_only most v s u e in
    let l = leb-true least v y.0 in
    let w = x.1 in
    record { text = decimal a; whole = x.0 ∙ (cc); holds = h a r (omega arith) (omega arith) }

-- what is to hold behind a first step
abbrev Goes : {B : Type 0} → (List ℕ → B → List ℕ → Type 0) → List ℕ → List ℕ → List ℕ → B → List ℕ → Type 0
Goes Q t u v b r = u ≡ v ++ r → Q (t ++ v) b r

bind-spelled : {A B : Type 0} (Q : List ℕ → B → List ℕ → Type 0) (k : A → S B) (s : List ℕ) (g : Got A) {b : B} {m : ℕ} {r : List ℕ}
    → ((a : A) (l : ℕ) (u : List ℕ) → g ≡ got a l u → Spelled (λ t a u. Spells (k a) (Goes Q t u)) s a u)
    → ((a : A) (l : ℕ) (u t : List ℕ) → Spells (k a) (Goes Q t u) → run (k a) l u ≡ got b m r → Spelled (Goes Q t u) u b r)
    → and_then g (λ a l u. run (k a) l u) ≡ got b m r → Spelled Q s b r
bind-spelled Q k s (got a l u) first second e =
    let x = first a l u refl in
    let y = second a l u x.text x.holds e in
    spelled-join Q x y.text y.whole (y.holds y.whole)
bind-spelled Q k s (bad l) first second e = absurd (bad-got e)

pub spelled : {A : Type 0} (p : S A) (Q : List ℕ → A → List ℕ → Type 0) → Spells p Q → (n : ℕ) (s : List ℕ) {a : A} {m : ℕ} {r : List ℕ}
    → run p n s ≡ got a m r → Spelled Q s a r
unfolding run Spells
spelled (give b) Q h n s e = give-spelled Q b n s h e
spelled fail Q h n s e = absurd (bad-got e)
spelled (word w) Q h n s e = word-spelled Q w s n (after w s) refl h e
spelled (peek c) Q h n s e = peek-spelled Q c s n h e
spelled (number least most) Q h n s e = number_spelled Q least most n s (numeral most s) refl h e
spelled end_line Q h n s e = end-spelled Q s n h e
spelled (whether w p q) Q h n s e =
    ways-spelled Q w s (after w s) (λ rest. run p n rest) (run q n s) refl (λ u x. spelled p _ h.0 n u x) (λ x. spelled q Q h.1 n s x) e
spelled (at_end p q) Q h n s e = ends-spelled Q s (run p n s) (run q n s) (λ x. spelled p _ h.0 n s x) (λ x. spelled q Q h.1 n s x) e
spelled (p >>= k) Q h n s e =
    bind-spelled Q k s (run p n s) (λ a l u g. spelled p _ h n s g) (λ a l u t g f. spelled (k a) (Goes Q t u) g l u f) e

-- ---- rules

pub s-give : {A : Type 0} (a : A) (Q : List ℕ → A → List ℕ → Type 0) → ((r : List ℕ) → Q [] a r) → Spells (give a) Q
unfolding Spells
s-give a Q h = h

pub s-fail : {A : Type 0} (Q : List ℕ → A → List ℕ → Type 0) → Spells (fail {A = A}) Q
unfolding Spells
s-fail Q = tt

pub s-word : (w : List ℕ) → Spells (word w) (λ t a r. t ≡ w)
unfolding Spells
s-word w r = refl

pub s-number : (least most : ℕ) → Spells (number least most) (λ t v r. (t ≡ decimal v) × (least ≤ v) × (v ≤ most))
unfolding Spells
s-number least most v r l h = (refl, l, h)

pub s_end-line : Spells end_line (λ t a r. t ≡ newline ∷ [])
unfolding Spells
s_end-line r = refl

pub s-whether : {A : Type 0} (w : List ℕ) (p q : S A) (Q : List ℕ → A → List ℕ → Type 0) → Spells p (λ t a r. Q (w ++ t) a r) → Spells q Q
    → Spells (whether w p q) Q
unfolding Spells
s-whether w p q Q f g = (f, g)

pub s_at_end : {A : Type 0} (p q : S A) (Q : List ℕ → A → List ℕ → Type 0) → Spells p (λ t a r. t ++ r ≡ [] → Q t a r) → Spells q Q → Spells (at_end p q) Q
unfolding Spells
s_at_end p q Q f g = (f, g)

pub s-check : {A : Type 0} (test : Bool) (p : S A) (Q : List ℕ → A → List ℕ → Type 0) → (test ≡ true → Spells p Q) → Spells (check test p) Q
unfolding Spells
s-check true p Q h = h refl
s-check false p Q h = tt

pub s-pick : {A : Type 0} (test : Bool) (p q : S A) (Q : List ℕ → A → List ℕ → Type 0) → (test ≡ true → Spells p Q) → (test ≡ false → Spells q Q)
    → Spells (pick test p q) Q
s-pick true p q Q f g = f refl
s-pick false p q Q f g = g refl

-- what follows from what holds
pub s-then : {A : Type 0} (p : S A) (Q R : List ℕ → A → List ℕ → Type 0) → Spells p Q → ((t : List ℕ) (a : A) (r : List ℕ) → Q t a r → R t a r) → Spells p R
unfolding Spells
s-then (give a) Q R h f = λ r. f [] a r (h r)
s-then fail Q R h f = tt
s-then (word w) Q R h f = λ r. f w tt r (h r)
s-then (peek c) Q R h f = λ r. f [] tt (c ∷ r) (h r)
s-then (number least most) Q R h f = λ v r l g. f (decimal v) v r (h v r l g)
s-then end_line Q R h f = λ r. f (newline ∷ []) tt r (h r)
s-then (whether w p q) Q R h f = (s-then p _ _ h.0 (λ t a r x. f (w ++ t) a r x), s-then q Q R h.1 f)
s-then (at_end p q) Q R h f = (s-then p _ _ h.0 (λ t a r x e. f t a r (x e)), s-then q Q R h.1 f)
s-then (p >>= k) Q R h f = s-then p _ _ h (λ t a s g. s-then (k a) _ _ g (λ u b r x e. f (t ++ u) b r (x e)))

-- a step of which it is known what it takes, and another behind it
pub s-bind : {A B : Type 0} (p : S A) (k : A → S B) (P : List ℕ → A → List ℕ → Type 0) (Q : List ℕ → B → List ℕ → Type 0) → Spells p P
    → ((t : List ℕ) (a : A) (s : List ℕ) → P t a s → Spells (k a) (λ u b r. s ≡ u ++ r → Q (t ++ u) b r)) → Spells (p >>= k) Q
unfolding Spells
s-bind p k P Q h f = s-then p P _ h f

-- what holds of all texts and every value
pub s-any : {A : Type 0} (p : S A) (Q : List ℕ → A → List ℕ → Type 0) → ((t : List ℕ) (a : A) (r : List ℕ) → Q t a r) → Spells p Q
unfolding Spells
s-any (give a) Q f = λ r. f [] a r
s-any fail Q f = tt
s-any (word w) Q f = λ r. f w tt r
s-any (peek c) Q f = λ r. f [] tt (c ∷ r)
s-any (number least most) Q f = λ v r l g. f (decimal v) v r
s-any end_line Q f = λ r. f (newline ∷ []) tt r
s-any (whether w p q) Q f = (s-any p _ (λ t a r. f (w ++ t) a r), s-any q Q f)
s-any (at_end p q) Q f = (s-any p _ (λ t a r e. f t a r), s-any q Q f)
s-any (p >>= k) Q f = s-any p _ (λ t a s. s-any (k a) _ (λ u b r e. f (t ++ u) b r))

-- ---- what is left

-- what is given was read from a text in front of what is left
pub rest_only : {A : Type 0} (p : S A) (n : ℕ) (s : List ℕ) (a : A) (m : ℕ) (r : List ℕ) → run p n s ≡ got a m r → (t : List ℕ) × (s ≡ t ++ r)
rest_only p n s a m r h = let x = spelled p (λ t a r. Unit {0}) (s-any p _ (λ t a r. tt)) n s h in (x.text, x.whole)

-- so it is no longer than the whole
pub rest-length : {A : Type 0} (p : S A) (n : ℕ) (s : List ℕ) (a : A) (m : ℕ) (r : List ℕ) → run p n s ≡ got a m r → length r ≤ length s
rest-length p n s a m r h =
    let x = rest_only p n s a m r h in
    omega (arith, ap length x.1, length-append x.0 r)
