-- A refusal moves with its bits: where the same bits stand at another place, a reader is refused there with the same number, the same bits missing, and the place has moved as the
-- bits have. One theorem, and a rule for each step.
use Rattle.std.specs.Prelude.{◌≡◌, Bool, true, false, List, [], ◌∷◌, ℕ, ◌+◌, ◌-◌, ◌≤◌, ◌<◌, length}
use Rattle.std.proofs.Common.{sym, ap, ap₂, ◌∙◌, arith}
use Rattle.bits.specs.Language.{no, pick, Bits, P, give, refuse, field, within, ◌>>=◌, run, bits, refuse_if, bits_unless, each, past_declared}
use Rattle.bits.specs.Steps.{same_no, give_no, bind_no, bind_is, bind_stops, within_stops, length-slice}
use Rattle.bits.specs.Laws.{local}
use Rattle.bits.specs.Reached.{field-passes, size-passes, refuses}
use Rattle.bits.specs.ReachedLaws.{stop-refuses, field_past, element-past}
use Rattle.bits.specs.Writes.{Spells}
use Rattle.bits.specs.Spells.{spelled, s-any, s-then}
use Rattle.bits.specs.Terms.{Agree, taken}

-- no refusal of p lies further back than n bits before its first bit
unfoldable pub Backs : {A : Type 0} → ℕ → P A → Type 0
Backs n (give a) = Unit {0}
Backs n (refuse r back) = back ≤ n
Backs n (field w f) = Unit {0}
Backs n (within w back p) = (back ≤ n) × Backs n p
Backs n (p >>= k) = Backs n p × Spells p (λ l a. Backs (n + length l) (k a))

-- p, refused at pl when it was read from at on, is refused alike on the bits c from at' on, up to e'; no place lies further back than n bits before the first
pub record Moved {A : Type 0} (p : P A) (c : Bits) (at at' e' o r pl m n : ℕ) : Type 0 where
  pub place : ℕ
  pub again : run p c at' e' o ≡ no r place m
  pub moved : place + at ≡ pl + at'
  pub low : at ≤ pl + n

-- a refusal of a step that q comes to is one of q
moved_up : {A B : Type 0} {p : P A} {q : P B} {c : Bits} {to to' e' o r pl m i at at' end over n : ℕ} → Moved p c to to' e' o r pl m i
    → ((place : ℕ) → run p c to' e' o ≡ no r place m → run q c at' end over ≡ no r place m) → to + at' ≡ at + to' → at + i ≤ to + n
    → Moved q c at at' end over r pl m n
moved_up x f far l = record { place = x.place; again = f x.place x.again; moved = omega (arith, x.moved); low = omega (arith, x.low) }

pub moves : {A : Type 0} (n : ℕ) (p : P A) → Backs n p → (b c : Bits) → ((i : ℕ) → b i < 2) → (at e at' e' o : ℕ) {r pl m : ℕ} → run p b at e o ≡ no r pl m
    → at ≤ e → n ≤ at → n ≤ at' → Agree b at c at' (e - at) → at' + (e - at) ≡ e' → Moved p c at at' e' o r pl m n
unfolding Backs
moves n (give a) s b c bin at e at' e' o h le i j ag q = absurd (give_no a b at e o h)
moves n (refuse r back) s b c bin at e at' e' o h le i j ag q =
    let x = same_no (sym (stop-refuses b refuses) ∙ h) in
    record {
      place = at' - back;
      again = stop-refuses c refuses ∙ ap₂ (λ (i j : ℕ). no i (at' - back) j) x.0 x.2;
      moved = omega arith;
      low = omega arith;
    }
moves n (field w f) s b c bin at e at' e' o h le i j ag q =
    let x = field_past w f b at e o h in
    record {
      place = at';
      again = stop-refuses c (field-passes {f = f} (omega arith)) ∙ ap₂ (λ (i j : ℕ). no i at' j) x.1 (omega arith);
      moved = omega arith;
      low = omega arith;
    }
moves n (within w back p) s b c bin at e at' e' o h le i j ag q =
    element-past w back p b at e o h
    (λ l x.
    moved_up (moves n p s.1 b c bin at (at + w) at' (at' + w) past_declared x (omega arith) i j (λ t u. ag t (omega arith)) (omega arith))
    (λ place z. within_stops w back p c at' e' o (omega arith) z) (omega arith) (omega arith))
    (λ x.
    record {
      place = at' - back;
      again = stop-refuses c (size-passes {p = p} (omega arith)) ∙ ap₂ (λ (i j : ℕ). no i (at' - back) j) x.1 (omega arith);
      moved = omega (arith, s.0);
      low = omega (arith, s.0);
    })
moves n (p >>= k) s b c bin at e at' e' o h le i j ag q =
    bind_no p k b at e o h
    (λ x. moved_up (moves n p s.0 b c bin at e at' e' o x le i j ag q) (λ place z. bind_stops p k c at' e' o z) (omega arith) (omega arith))
    (λ a mid x y.
    let lo = local p b at e o x le in
    let ends = lo.ends in
    let fits = lo.fits in
    let long = length-slice b at (mid - at) in
    let first = lo.moved c at' e' o (λ v w. ag v (omega arith)) (omega arith) in
    moved_up
    (moves (n + length (taken b at mid)) (k a) (spelled p _ s.1 b bin at e o le x) b c bin mid e (at' + lo.used) e' o y fits (omega arith) (omega arith)
    (λ v w. ap b (omega arith) ∙ ag (lo.used + v) (omega arith) ∙ ap c (omega arith)) (omega arith))
    (λ place z. bind_is p k c at' e' o first ∙ z) (omega arith) (omega arith))

-- ---- a rule for each step

-- what lies no further back than n bits lies no further back than more
pub backs_more : {A : Type 0} (n m : ℕ) (p : P A) → Backs n p → n ≤ m → Backs m p
unfolding Backs
backs_more n m (give a) s l = tt
backs_more n m (refuse r back) s l = omega arith
backs_more n m (field w f) s l = tt
backs_more n m (within w back p) s l = (omega (arith, s.0), backs_more n m p s.1 l)
backs_more n m (p >>= k) s l =
    (backs_more n m p s.0 l, s-then p _ _ s.1 (λ t a x. backs_more (n + length t) (m + length t) (k a) x (omega arith)))

pub backs-give : {A : Type 0} (n : ℕ) (a : A) → Backs n (give a)
unfolding Backs
backs-give n a = tt

pub backs-field : {A : Type 0} (n w : ℕ) (f : List ℕ → A) → Backs n (field w f)
unfolding Backs
backs-field n w f = tt

pub backs-within : {A : Type 0} (n w back : ℕ) (p : P A) → back ≤ n → Backs n p → Backs n (within w back p)
unfolding Backs
backs-within n w back p l x = (l, x)

-- what may lie before what the first step took, and what does not
pub backs-bind : {A B : Type 0} (n : ℕ) (p : P A) (k : A → P B) → Backs n p → Spells p (λ l a. Backs (n + length l) (k a)) → Backs n (p >>= k)
unfolding Backs
backs-bind n p k x y = (x, y)

pub backs-then : {A B : Type 0} (n : ℕ) (p : P A) (k : A → P B) → Backs n p → ((a : A) → Backs n (k a)) → Backs n (p >>= k)
backs-then n p k x y = backs-bind n p k x (s-any p _ (λ l a. backs_more n (n + length l) (k a) (y a) (omega arith)))

pub backs-pick : {A : Type 0} (n : ℕ) (t : Bool) (p q : P A) → Backs n p → Backs n q → Backs n (pick t p q)
backs-pick n true p q x y = x
backs-pick n false p q x y = y

pub backs-pass : {A : Type 0} (n : ℕ) (t : Bool) (r back : ℕ) (v : A) → back ≤ n → Backs n (refuse_if t r back v)
unfolding Backs
backs-pass n true r back v l = l
backs-pass n false r back v l = tt

-- a field that is refused at its own first bit
pub backs-unless : (n r w : ℕ) (test : ℕ → Bool) → Backs n (bits_unless r w test)
unfolding Spells
backs-unless n r w test =
    backs-bind n (bits w) _ (backs-field n w _) (λ l e bin. backs-pass _ (test _) r w _ (omega arith))

pub backs-each : {X A : Type 0} (n : ℕ) (f : X → P A) (xs : List X) → ((x : X) → Backs n (f x)) → Backs n (each f xs)
unfolding each
backs-each n f [] h = backs-give n _
backs-each n f (x ∷ xs) h = backs-then n _ _ (h x) λ a. backs-then n _ _ (backs-each n f xs h) λ rest. backs-give n _

pub ruleset backing = (backs-give, backs-field, backs-unless, backs-then, backs-pick, backs-each)
