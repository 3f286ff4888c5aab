-- The laws of every reader, each proved once over the tree.
use Rattle.std.specs.Prelude.{◌≡◌, refl, Bool, true, false, List, [], ◌∷◌, ℕ, zero, suc, ◌+◌, ◌-◌, ◌≤◌, ◌<◌, length, leb}
use Rattle.std.proofs.Common.{sym, ap, ap₂, ◌∙◌, arith, add-one, leb-true}
use Rattle.std.proofs.lemmas.Bool.{lt-leb}
use Rattle.bits.specs.Language.{Res, ok, no, pick, Bits, slice, P, give, refuse, field, within, ◌>>=◌, and_then, run, past_declared, each, from}
use Rattle.bits.specs.Steps.{no_ok, by_order, bind_ok, within_ok, field_ok, give_ok, bind_no, within_no, field_no, refuse_no, give_no, bind_is, within_is, field_is, bind_stops, within_stops}
use Rattle.bits.specs.Terms.{Agree, Same, Says, Local}

agree_next : (b c : Bits) (at to m : ℕ) → Agree b at c to (suc m) → Agree b (suc at) c (suc to) m
agree_next b c at to m h i l = ap b (omega arith) ∙ h (suc i) (omega arith) ∙ ap c (omega arith)

pub slice-agree : (b c : Bits) (at to m : ℕ) → Agree b at c to m → slice b at m ≡ slice c to m
unfolding slice
slice-agree b c at to zero h = refl
slice-agree b c at to (suc m) h =
    ap₂ (λ (x : ℕ) (xs : List ℕ). x ∷ xs) (ap b (omega arith) ∙ h 0 (omega arith) ∙ ap c (omega arith))
    (slice-agree b c (suc at) (suc to) m (agree_next b c at to m h))

-- ---- what is accepted

pub local : {A : Type 0} (p : P A) (b : Bits) (at e o : ℕ) {v : A} {to : ℕ} → run p b at e o ≡ ok v to → at ≤ e → Local p b at e v to
unfolding run
local (give a) b at e o h le =
    let g = give_ok a b at e o h in
    record { used = 0; ends = omega arith; fits = omega arith; moved = λ c at' e' o' ag l. ap₂ ok g.0 (omega arith) }
local (refuse r back) b at e o h le = absurd (no_ok h)
local (field w f) b at e o h le =
    let g = field_ok w f b at e o h in
    record {
      used = w;
      ends = g.2;
      fits = omega arith;
      moved = λ c at' e' o' ag l. field_is w f c at' e' o' l ∙ ap (λ (x : _). ok x (at' + w)) (ap f (sym (slice-agree b c at at' w ag)) ∙ g.1);
    }
local (within n back p) b at e o {v} {to} h le =
    within_ok n back p b at e o h λ mid l r x.
    let ih = local p b at (at + n) past_declared r (omega arith) in
    record {
      used = n;
      ends = x;
      fits = omega arith;
      moved = λ c at' e' o' ag l'.
          within_is n back p c at' e' o' l' ∙ rw (ih.moved c at' (at' + n) past_declared (λ i j. ag i (omega arith)) (omega arith));
    }
local (p >>= k) b at e o {v} {to} h le =
    bind_ok p k b at e o h λ a mid r s.
    let ih = local p b at e o r le in
    let ih' = local (k a) b mid e o s ih.fits in
    record {
      used = ih.used + ih'.used;
      ends = omega arith;
      fits = ih'.fits;
      moved = λ c at' e' o' ag l.
          bind_is p k c at' e' o' (ih.moved c at' e' o' (λ i j. ag i (omega arith)) (omega arith))
          ∙ ih'.moved c (at' + ih.used) e' o' (λ i j. ap b (omega arith) ∙ ag (ih.used + i) (omega arith) ∙ ap c (omega arith)) (omega arith)
          ∙ ap (ok v) (omega arith);
    }

-- what p accepted is the same with any end that it does not pass, and any bits behind where it came to
pub still : {A : Type 0} (p : P A) (b : Bits) (at e o : ℕ) {v : A} {to : ℕ} → run p b at e o ≡ ok v to → at ≤ e
    → (c : Bits) (e' o' : ℕ) → Same b c to → to ≤ e' → run p c at e' o' ≡ ok v to
still p b at e o {v} h le c e' o' ag l =
    let x = local p b at e o h le in
    x.moved c at e' o' (λ i j. ag (at + i) (omega arith)) (omega arith) ∙ ap (ok v) (sym x.ends)

-- what p accepted, with the end moved before where it came to, is refused for passing that end
pub cut : {A : Type 0} (p : P A) (b : Bits) (at e o : ℕ) {v : A} {to : ℕ} → run p b at e o ≡ ok v to → at ≤ e
    → (c : Bits) (e' o' : ℕ) → Same b c e' → at ≤ e' → e' < to → (pl : ℕ) × (m : ℕ) × (run p c at e' o' ≡ no o' pl m)
unfolding run
cut (give a) b at e o h le c e' o' ag l s = let g = give_ok a b at e o h in absurd (omega arith)
cut (refuse r back) b at e o h le c e' o' ag l s = absurd (no_ok h)
cut (field w f) b at e o h le c e' o' ag l s =
    let g = field_ok w f b at e o h in
    (at, at + w - e', rw (lt-leb (at + w) e' (omega arith)))
cut (within n back p) b at e o {v} {to} h le c e' o' ag l s =
    within_ok n back p b at e o h λ mid f r x.
    (at - back, at + n - e', rw (lt-leb (at + n) e' (omega arith)))
cut (p >>= k) b at e o {v} {to} h le c e' o' ag l s =
    bind_ok p k b at e o h λ a mid r t.
    by_order mid e'
    (λ f.
    let x = cut (k a) b mid e o t (local p b at e o r le).fits c e' o' ag f s in
    (x.0, x.1, bind_is p k c at e' o' (still p b at e o r le c e' o' (λ i j. ag i (omega arith)) f) ∙ x.2))
    (λ f.
    let x = cut p b at e o r le c e' o' ag l f in
    (x.0, x.1, bind_stops p k c at e' o' x.2))

-- ---- what is answered at all

pick_same : {A : Type 0} (m n : ℕ) (x y z : Res A) → (m ≤ n → x ≡ y) → pick (leb m n) x z ≡ pick (leb m n) y z
pick_same m n x y z h = go (leb m n) refl
  where
    go : (t : Bool) → leb m n ≡ t → pick t x z ≡ pick t y z
    go true q = h (leb-true m n q)
    go false q = refl

then_same : {A B : Type 0} (r : Res A) (f g : A → ℕ → Res B) → ((a : A) (mid : ℕ) → f a mid ≡ g a mid) → and_then r f ≡ and_then r g
then_same (ok a mid) f g h = h a mid
then_same (no r pl m) f g h = refl

-- no bit at or behind the end matters
pub same_end : {A : Type 0} (p : P A) (b c : Bits) (at e o : ℕ) → Same b c e → run p b at e o ≡ run p c at e o
unfolding run
same_end (give a) b c at e o ag = refl
same_end (refuse r back) b c at e o ag = refl
same_end (field w f) b c at e o ag = pick_same (at + w) e _ _ _ (λ l. rw (slice-agree b c at at w (λ i j. ag (at + i) (omega arith))))
same_end (within n back p) b c at e o ag =
    pick_same (at + n) e _ _ _ (λ l. rw (same_end p b c at (at + n) past_declared (λ i j. ag i (omega arith))))
same_end (p >>= k) b c at e o ag =
    rw (same_end p b c at e o ag) (then_same (run p c at e o) _ _ (λ a mid. same_end (k a) b c mid e o ag))

-- ---- what is refused

-- a refusal for anything but passing the end is the same with more bits
pub stays : {A : Type 0} (p : P A) (b : Bits) (at e o : ℕ) {r pl m : ℕ} → run p b at e o ≡ no r pl m → (r ≡ o → ⊥) → at ≤ e
    → (c : Bits) (e' o' : ℕ) → Same b c e → e ≤ e' → run p c at e' o' ≡ no r pl m
unfolding run
stays (give a) b at e o h d le c e' o' ag l = absurd (give_no a b at e o h)
stays (refuse r back) b at e o h d le c e' o' ag l = h
stays (field w f) b at e o h d le c e' o' ag l = absurd (d (field_no w f b at e o h).0)
stays (within n back p) b at e o {r} {pl} {m} h d le c e' o' ag l =
    within_no n back p b at e o h
    (λ f x. within_stops n back p c at e' o' (omega arith) (sym (same_end p b c at (at + n) past_declared (λ i j. ag i (omega arith))) ∙ x))
    (λ q x. absurd (d q))
stays (p >>= k) b at e o {r} {pl} {m} h d le c e' o' ag l =
    bind_no p k b at e o h
    (λ x. bind_stops p k c at e' o' (stays p b at e o x d le c e' o' ag l))
    (λ a mid x y.
    let f = (local p b at e o x le).fits in
    bind_is p k c at e' o' (still p b at e o x le c e' o' (λ i j. ag i (omega arith)) (omega arith)) ∙ stays (k a) b mid e o y d f c e' o' ag l)

-- a refusal's place does not lie behind the end
pub placed : {A : Type 0} (p : P A) (b : Bits) (at e o : ℕ) {r pl m : ℕ} → run p b at e o ≡ no r pl m → at ≤ e → pl ≤ e
placed (give a) b at e o h le = absurd (give_no a b at e o h)
placed (refuse r back) b at e o h le = let g = refuse_no r back b at e o h in omega arith
placed (field w f) b at e o h le = let g = field_no w f b at e o h in omega arith
placed (within n back p) b at e o {r} {pl} {m} h le =
    within_no n back p b at e o h
    (λ f x. let g = placed p b at (at + n) past_declared x (omega arith) in omega arith)
    (λ q x. omega arith)
placed (p >>= k) b at e o {r} {pl} {m} h le =
    bind_no p k b at e o h (λ x. placed p b at e o x le) (λ a mid x y. placed (k a) b mid e o y (local p b at e o x le).fits)

-- a refusal's number is that of passing the end, of passing a declared end, or one of the reader's own
pub numbered : {A : Type 0} (p : P A) (Q : ℕ → Type 0) (b : Bits) (at e o : ℕ) {r pl m : ℕ} → Says p Q → Q o → Q past_declared
    → run p b at e o ≡ no r pl m → Q r
unfolding Says
numbered (give a) Q b at e o s q i h = absurd (give_no a b at e o h)
numbered (refuse r back) Q b at e o s q i h = rw (refuse_no r back b at e o h).0 s
numbered (field w f) Q b at e o s q i h = rw (field_no w f b at e o h).0 q
numbered (within n back p) Q b at e o {r} s q i h =
    within_no n back p b at e o h (λ f x. numbered p Q b at (at + n) past_declared s i i x) (λ y x. rw y q)
numbered (p >>= k) Q b at e o {r} s q i h =
    bind_no p k b at e o h (λ x. numbered p Q b at e o s.0 q i x) (λ a mid x y. numbered (k a) Q b mid e o (s.1 a) q i y)

-- for the readers that are no step of the tree
pub says-pick : {A : Type 0} (t : Bool) (p q : P A) (Q : ℕ → Type 0) → Says p Q → Says q Q → Says (pick t p q) Q
says-pick true p q Q x y = x
says-pick false p q Q x y = y

pub says-each : {X A : Type 0} (f : X → P A) (xs : List X) (Q : ℕ → Type 0) → ((x : X) → Says (f x) Q) → Says (each f xs) Q
unfolding Says each
says-each f [] Q h = tt
says-each f (x ∷ xs) Q h = (h x, λ a. (says-each f xs Q h, λ rest. tt))

pub ruleset saying = (says-pick, says-each)

-- ---- a reader for each entry of a list

-- it gives as many values as there are entries
pub each_long : {X A : Type 0} (f : X → P A) (xs : List X) (b : Bits) (at e o : ℕ) {v : List A} {to : ℕ} → run (each f xs) b at e o ≡ ok v to
    → length v ≡ length xs
unfolding each
each_long f [] b at e o {v} h = ap length (sym (give_ok [] b at e o h).0)
each_long f (x ∷ xs) b at e o {v} h =
    bind_ok (f x) (λ a. each f xs >>= λ rest. give (a ∷ rest)) b at e o h λ a mid r s.
    bind_ok (each f xs) (λ rest. give (a ∷ rest)) b mid e o s λ rest mid' t u.
    ap length (sym (give_ok (a ∷ rest) b mid' e o u).0) ∙ ap suc (each_long f xs b mid e o t)

pub length_from : (i n : ℕ) → length (from i n) ≡ n
unfolding from
length_from i zero = refl
length_from i (suc n) = ap suc (length_from (suc i) n)

-- the numbers from i up to n, with the first apart; and from n on there is none
pub from_next : (i n : ℕ) → i < n → from i (n - i) ≡ i ∷ from (i + 1) (n - (i + 1))
unfolding from
from_next i n h =
    let e : n - i ≡ suc (n - (i + 1)) = omega arith in
    rw (e, add-one i)

pub from_none : (i n : ℕ) → n ≤ i → from i (n - i) ≡ []
unfolding from
from_none i n h =
    let e : n - i ≡ 0 = omega arith in
    rw e
