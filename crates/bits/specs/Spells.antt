-- Which bits a reader takes for the value that it gives: one theorem, and a rule for each step.
use Rattle.std.specs.Prelude.{◌≡◌, refl, Bool, true, false, List, [], ◌++◌, ℕ, ◌+◌, ◌-◌, ◌^◌, ◌≤◌, ◌<◌}
use Rattle.std.proofs.Common.{sym, ap, ◌∙◌, subst, true≢false, append-nil, arith}
use Rattle.std.proofs.lemmas.Bool.{false≢true}
use Rattle.bits.specs.Language.{ok, pick, Bits, slice, number, P, give, refuse, field, within, ◌>>=◌, run, bits, bits_if, when, refuse_if, bits_unless, past_declared}
use Rattle.bits.specs.Steps.{no_ok, give_ok, bind_ok, within_ok, field_ok, length-slice}
use Rattle.bits.specs.Laws.{local}
use Rattle.bits.specs.Writes.{to_bits, only, Spells}
use Rattle.bits.specs.Lists.{slice-append, binary-slice, bits-number, number_lt}
use Rattle.bits.specs.Terms.{taken}

pub taken-join : (b : Bits) (at mid to : ℕ) → at ≤ mid → mid ≤ to → taken b at mid ++ taken b mid to ≡ taken b at to
taken-join b at mid to l h =
    let e : to - at ≡ (mid - at) + (to - mid) = omega arith in
    let f : at + (mid - at) ≡ mid = omega arith in
    sym (ap (slice b at) e ∙ slice-append b at (mid - at) (to - mid) ∙ ap (λ (k : ℕ). taken b at mid ++ slice b k (to - mid)) f)

pub spelled : {A : Type 0} (p : P A) (Q : List ℕ → A → Type 0) → Spells p Q → (b : Bits) → ((i : ℕ) → b i < 2) → (at e o : ℕ) {v : A} {to : ℕ} → at ≤ e
    → run p b at e o ≡ ok v to → Q (taken b at to) v
unfolding run Spells slice
spelled (give a) Q h b bin at e o {v} {to} le r =
    let g = give_ok a b at e o r in
    let z : to - at ≡ 0 = (let x = g.1 in omega arith) in
    rw z (subst (Q []) g.0 h)
spelled (refuse n back) Q h b bin at e o le r = absurd (no_ok r)
spelled (field w f) Q h b bin at e o {v} {to} le r =
    let g = field_ok w f b at e o r in
    let z : to - at ≡ w = (let x = g.2 in omega arith) in
    rw z (subst (Q (slice b at w)) g.1 (h (slice b at w) (length-slice b at w) (binary-slice b at w bin)))
spelled (within n back p) Q h b bin at e o {v} {to} le r =
    within_ok n back p b at e o r λ mid l q m.
    let x = local p b at (at + n) past_declared q (omega arith) in
    let f = x.fits in
    let g = x.ends in
    let i = spelled p _ h b bin at (at + n) past_declared (omega arith) q in
    subst (λ (t : List ℕ). Q t v) (taken-join b at mid to (omega arith) (omega arith))
    (i (taken b mid to) (let c = length-slice b at (mid - at) in let d = length-slice b mid (to - mid) in omega arith) (binary-slice b mid (to - mid) bin))
spelled (p >>= k) Q h b bin at e o {v} {to} le r =
    bind_ok p k b at e o r λ a mid q s.
    let x = local p b at e o q le in
    let y = local (k a) b mid e o s x.fits in
    let f = x.ends in
    let g = y.ends in
    subst (λ (t : List ℕ). Q t v) (taken-join b at mid to (omega arith) (omega arith))
    (spelled (k a) _ (spelled p _ h b bin at e o le q) b bin mid e o x.fits s)

-- ---- a rule for each step

pub s-give : {A : Type 0} (a : A) (Q : List ℕ → A → Type 0) → Q [] a → Spells (give a) Q
unfolding Spells
s-give a Q h = h

pub s-refuse : {A : Type 0} (r back : ℕ) (Q : List ℕ → A → Type 0) → Spells {A = A} (refuse r back) Q
unfolding Spells
s-refuse r back Q = tt

pub s-bind : {A B : Type 0} (p : P A) (k : A → P B) (Q : List ℕ → B → Type 0) → Spells p (λ l a. Spells (k a) (λ m v. Q (l ++ m) v)) → Spells (p >>= k) Q
unfolding Spells
s-bind p k Q h = h

-- a field of w bits takes those of its value
pub s-bits : (w : ℕ) (Q : List ℕ → ℕ → Type 0) → ((v : ℕ) → v < 2 ^ w → Q (to_bits w v) v) → Spells (bits w) Q
unfolding Spells
s-bits w Q h l n bin =
    let e : to_bits w (number l) ≡ l = ap (λ (k : ℕ). to_bits k (number l)) (sym n) ∙ bits-number l bin in
    subst (λ (t : List ℕ). Q t (number l)) e (h (number l) (rw n at (number_lt l bin)))

-- a field that is there only if the test holds takes none where it is not, and is 0 there
pub s_if : (t : Bool) (w : ℕ) (Q : List ℕ → ℕ → Type 0) → ((v : ℕ) → (t ≡ true → v < 2 ^ w) → (t ≡ false → 0 ≡ v) → Q (only t (to_bits w v)) v)
    → Spells (bits_if t w) Q
s_if true w Q h = s-bits w Q (λ v l. h v (λ q. l) (λ q. absurd (true≢false q)))
s_if false w Q h = s-give 0 Q (h 0 (λ q. absurd (false≢true q)) (λ q. refl))

-- a value that was not refused takes none
pub s-pass : {A : Type 0} (t : Bool) (r back : ℕ) (v : A) (Q : List ℕ → A → Type 0) → (t ≡ false → Q [] v) → Spells (refuse_if t r back v) Q
s-pass true r back v Q h = s-refuse r back Q
s-pass false r back v Q h = s-give v Q (h refl)

-- a field that is there only if the test holds, and whose value was not refused
pub s-unless : (on : Bool) (r w : ℕ) (test : ℕ → Bool) (Q : List ℕ → ℕ → Type 0)
    → ((v : ℕ) → (on ≡ true → (v < 2 ^ w) × (test v ≡ false)) → (on ≡ false → 0 ≡ v) → Q (only on (to_bits w v)) v)
    → Spells (when on (bits_unless r w test) 0) Q
s-unless true r w test Q h =
    s-bind _ _ Q (s-bits w _ (λ v l. s-pass (test v) r w v _ (λ e.
    subst (λ (t : List ℕ). Q t v) (sym (append-nil (to_bits w v))) (h v (λ q. (l, e)) (λ q. absurd (true≢false q))))))
s-unless false r w test Q h = s-give 0 Q (h 0 (λ q. absurd (false≢true q)) (λ q. refl))

-- what holds of all bits and every value
pub s-any : {A : Type 0} (p : P A) (Q : List ℕ → A → Type 0) → ((l : List ℕ) (a : A) → Q l a) → Spells p Q
unfolding Spells
s-any (give a) Q h = h [] a
s-any (refuse r back) Q h = tt
s-any (field w f) Q h = λ l n b. h l (f l)
s-any (within n back p) Q h = s-any p _ (λ l a rest m b. h (l ++ rest) a)
s-any (p >>= k) Q h = s-any p _ (λ l a. s-any (k a) _ (λ m v. h (l ++ m) v))

-- what follows from what holds
pub s-then : {A : Type 0} (p : P A) (Q R : List ℕ → A → Type 0) → Spells p Q → ((l : List ℕ) (a : A) → Q l a → R l a) → Spells p R
unfolding Spells
s-then (give a) Q R h f = f [] a h
s-then (refuse r back) Q R h f = tt
s-then (field w g) Q R h f = λ l n b. f l (g l) (h l n b)
s-then (within n back p) Q R h f = s-then p _ _ h (λ l a g rest m b. f (l ++ rest) a (g rest m b))
s-then (p >>= k) Q R h f = s-then p _ _ h (λ l a g. s-then (k a) _ _ g (λ m v q. f (l ++ m) v q))

pub s-pick : {A : Type 0} (t : Bool) (p q : P A) (Q : List ℕ → A → Type 0) → (t ≡ true → Spells p Q) → (t ≡ false → Spells q Q) → Spells (pick t p q) Q
s-pick true p q Q f g = f refl
s-pick false p q Q f g = g refl
