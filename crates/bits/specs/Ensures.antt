-- What every accepted value satisfies, whatever bits it was read from: one theorem, and a rule for each step.
use Rattle.std.specs.Prelude.{◌≡◌, Bool, true, false, List, [], ◌∷◌, ℕ, ◌+◌, ◌-◌, ◌^◌, ◌<◌}
use Rattle.std.proofs.Common.{subst, arith}
use Rattle.bits.specs.Language.{ok, pick, Bits, slice, P, give, refuse, field, within, ◌>>=◌, run, bits, when, bits_if, refuse_if, bits_unless, each, past_declared}
use Rattle.bits.specs.Steps.{no_ok, give_ok, bind_ok, within_ok, field_ok, length-slice}
use Rattle.bits.specs.Laws.{local}
use Rattle.bits.specs.Writes.{Spells}
use Rattle.bits.specs.Lists.{binary-slice}
use Rattle.bits.specs.Spells.{spelled, s-give, s-refuse, s-bits, s-bind, s-any, s-then, s-pick, s-pass, s_if, s-unless}
use Rattle.bits.specs.Terms.{taken, Ensures, All}

pub ensured : {A : Type 0} (p : P A) (Q : A → Type 0) → Ensures p Q → (b : Bits) → ((i : ℕ) → b i < 2) → (at e o : ℕ) {v : A} {to : ℕ}
    → run p b at e o ≡ ok v to → Q v
unfolding run Ensures Spells
ensured (give a) Q h b bin at e o r = subst Q (give_ok a b at e o r).0 h
ensured (refuse n back) Q h b bin at e o r = absurd (no_ok r)
ensured (field w f) Q h b bin at e o r = subst Q (field_ok w f b at e o r).1 (h (slice b at w) (length-slice b at w) (binary-slice b at w bin))
ensured (within n back p) Q h b bin at e o {v} {to} r =
    within_ok n back p b at e o r λ mid l q m.
    let x = local p b at (at + n) past_declared q (omega arith) in
    let c = length-slice b at (mid - at) in
    let d = length-slice b mid (at + n - mid) in
    spelled p _ h b bin at (at + n) past_declared (omega arith) q (taken b mid (at + n)) (omega (arith, x.ends, x.fits)) (binary-slice b mid (at + n - mid) bin)
ensured (p >>= k) Q h b bin at e o r =
    bind_ok p k b at e o r λ a mid q s. ensured (k a) Q (ensured p (λ a. Ensures (k a) Q) h b bin at e o q) b bin mid e o s

-- what the bits that were read say, too
pub e-spells : {A : Type 0} (p : P A) (Q : List ℕ → A → Type 0) (R : A → Type 0) → Spells p Q → ((l : List ℕ) (a : A) → Q l a → R a) → Ensures p R
unfolding Ensures
e-spells p Q R h f = s-then p Q _ h f

pub e-give : {A : Type 0} (a : A) (Q : A → Type 0) → Q a → Ensures (give a) Q
unfolding Ensures
e-give a Q h = s-give a _ h

pub e-refuse : {A : Type 0} (r back : ℕ) (Q : A → Type 0) → Ensures {A = A} (refuse r back) Q
unfolding Ensures
e-refuse r back Q = s-refuse r back _

-- a field of w bits is below 2 ^ w
pub e-bits : (w : ℕ) (Q : ℕ → Type 0) → ((v : ℕ) → v < 2 ^ w → Q v) → Ensures (bits w) Q
unfolding Ensures
e-bits w Q h = s-bits w _ h

pub e-within : {A : Type 0} (n back : ℕ) (p : P A) (Q : A → Type 0) → Ensures p Q → Ensures (within n back p) Q
unfolding Ensures Spells
e-within n back p Q h = s-then p _ _ h (λ l a q rest m b. q)

pub e-bind : {A B : Type 0} (p : P A) (k : A → P B) (Q : B → Type 0) → Ensures p (λ a. Ensures (k a) Q) → Ensures (p >>= k) Q
unfolding Ensures
e-bind p k Q h = s-bind p k _ h

-- what holds of every value of its type
pub e-any : {A : Type 0} (p : P A) (Q : A → Type 0) → ((a : A) → Q a) → Ensures p Q
unfolding Ensures
e-any p Q h = s-any p _ (λ l a. h a)

-- what follows from what holds
pub e-then : {A : Type 0} (p : P A) (Q R : A → Type 0) → Ensures p Q → ((a : A) → Q a → R a) → Ensures p R
unfolding Ensures
e-then p Q R h f = s-then p _ _ h (λ l a q. f a q)

pub e-pick : {A : Type 0} (t : Bool) (p q : P A) (Q : A → Type 0) → (t ≡ true → Ensures p Q) → (t ≡ false → Ensures q Q) → Ensures (pick t p q) Q
unfolding Ensures
e-pick t p q Q f g = s-pick t p q _ f g

pub e_when : {A : Type 0} (t : Bool) (p : P A) (d : A) (Q : A → Type 0) → (t ≡ true → Ensures p Q) → (t ≡ false → Q d) → Ensures (when t p d) Q
e_when t p d Q f g = e-pick t p (give d) Q f (λ q. e-give d Q (g q))

-- a value that was not refused
pub e-pass : {A : Type 0} (t : Bool) (r back : ℕ) (v : A) (Q : A → Type 0) → (t ≡ false → Q v) → Ensures (refuse_if t r back v) Q
unfolding Ensures
e-pass t r back v Q h = s-pass t r back v _ h

-- a field that is there only if the test holds; else it is 0
pub e_if : (t : Bool) (w : ℕ) (Q : ℕ → Type 0) → ((v : ℕ) → (t ≡ true → v < 2 ^ w) → (t ≡ false → 0 ≡ v) → Q v) → Ensures (bits_if t w) Q
unfolding Ensures
e_if t w Q h = s_if t w _ h

-- the same for a field whose value was not refused
pub e-unless : (on : Bool) (r w : ℕ) (test : ℕ → Bool) (Q : ℕ → Type 0)
    → ((v : ℕ) → (on ≡ true → (v < 2 ^ w) × (test v ≡ false)) → (on ≡ false → 0 ≡ v) → Q v) → Ensures (when on (bits_unless r w test) 0) Q
unfolding Ensures
e-unless on r w test Q h = s-unless on r w test _ h

pub e-each : {X A : Type 0} (f : X → P A) (R : X → A → Type 0) → ((x : X) → Ensures (f x) (R x)) → (xs : List X) → Ensures (each f xs) (All R xs)
unfolding each
e-each f R h [] = e-give [] (All R []) tt
e-each f R h (x ∷ xs) =
    e-bind _ _ _ (e-then (f x) (R x) _ (h x) λ a p. e-bind _ _ _ (e-then (each f xs) (All R xs) _ (e-each f R h xs) λ vs q. e-give _ _ (p, q)))
