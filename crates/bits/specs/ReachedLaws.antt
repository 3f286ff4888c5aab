-- The laws of what a reading comes to, each proved once over the tree.
use Rattle.std.specs.Prelude.{◌≡◌, refl, Bool, true, false, List, [], ◌∷◌, ◌⊎◌, ◌↔◌, ℕ, ◌+◌, ◌-◌, ◌≤◌, ◌<◌, leb}
use Rattle.std.proofs.Common.{sym, ap, ◌∙◌, subst, subst₂, inl, inr, arith, le-leb}
use Rattle.std.proofs.lemmas.Bool.{lt-leb}
use Rattle.bits.specs.Language.{Res, ok, no, Bits, P, give, refuse, field, within, ◌>>=◌, and_then, run, past_declared, pick, each}
use Rattle.bits.specs.Steps.{no_ok, same_no, by_order, give_no, field_is, field_no, refuse_no, bind_no, bind_is, bind_stops, within_is, within_stops}
use Rattle.bits.specs.Reached.{here, inside, first, behind, Comes, Stop, field-passes, size-passes, refuses, Stops, Plain, marked, giving, refusing, reads, both}

-- what p comes to, comes to what that comes to
pub comes-on : {b : Bits} {B : Type 0} {q : P B} {at' e' o' : ℕ} {A C : Type 0} {p : P A} {r : P C} {at e o at'' e'' o'' : ℕ} → Comes p b at e o q at' e' o'
    → Comes q b at' e' o' r at'' e'' o'' → Comes p b at e o r at'' e'' o''
comes-on here y = y
comes-on (inside l x) y = inside l (comes-on x y)
comes-on (first x) y = first (comes-on x y)
comes-on (behind h x) y = behind h (comes-on x y)

-- what is refused where the reading comes to is refused
pub refused_there : {b : Bits} {B : Type 0} {q : P B} {at' e' o' : ℕ} {A : Type 0} {p : P A} {at e o r pl m : ℕ} → Comes p b at e o q at' e' o'
    → run q b at' e' o' ≡ no r pl m → run p b at e o ≡ no r pl m
refused_there here h = h
refused_there (inside l x) h = within_stops _ _ _ _ _ _ _ l (refused_there x h)
refused_there (first x) h = bind_stops _ _ _ _ _ _ (refused_there x h)
refused_there (behind {k = k} {mid = mid} z x) h = bind_is _ k _ _ _ _ {mid = mid} z ∙ refused_there x h

-- ---- the step that stops

-- a step that stops refuses, with its number, its place and the bits that are missing
pub stop-refuses : {A : Type 0} {p : P A} (b : Bits) {at e o r pl m : ℕ} → Stop at e o A p r pl m → run p b at e o ≡ no r pl m
unfolding run
stop-refuses b (field-passes l) = rw (lt-leb _ _ l)
stop-refuses b (size-passes l) = rw (lt-leb _ _ l)
stop-refuses b refuses = refl

stops_here : {A : Type 0} {p : P A} {b : Bits} {at e o r pl m r' pl' m' : ℕ} → Stop at e o A p r' pl' m' → run p b at e o ≡ no r pl m
    → Stops p b at e o r pl m
stops_here {A} {p} {b} {at} {e} {o} {r} {pl} {m} {m' = m'} x h =
    let is = same_no (sym (stop-refuses b x) ∙ h) in
    record {
      Value = A;
      step = p;
      to = at;
      end = e;
      over = o;
      comes = here;
      stop = subst (λ (n : ℕ). Stop at e o A p r pl n) is.2 (subst₂ (λ (n n' : ℕ). Stop at e o A p n n' m') is.0 is.1 x);
    }

stops_in : {A B : Type 0} {p : P A} {q : P B} {b : Bits} {at e o at' e' o' r pl m : ℕ} → Comes p b at e o q at' e' o' → Stops q b at' e' o' r pl m
    → Stops p b at e o r pl m
stops_in x y = record {
  Value = y.Value;
  step = y.step;
  to = y.to;
  end = y.end;
  over = y.over;
  comes = comes-on x y.comes;
  stop = y.stop;
}

-- either it fits or it passes the end
by_end {ℓ} : {X : Type ℓ} (to e : ℕ) → (to ≤ e → X) → (e < to → X) → X
by_end {X} to e fits passes = go (by_order {X = (to ≤ e) ⊎ (e < to)} to e inl inr)
  where
    go : (to ≤ e) ⊎ (e < to) → X
    go (inl l) = fits l
    go (inr l) = passes l

closed_no : {A : Type 0} (x : Res A) (n : ℕ) {r pl m : ℕ} → and_then x (λ a to. ok a n) ≡ no r pl m → x ≡ no r pl m
closed_no (ok a to) n h = absurd (no_ok (sym h))
closed_no (no r pl m) n h = h

-- an element that is refused: something in it, or its declared end
pub element_no {ℓ} : {A : Type 0} {X : Type ℓ} (n back : ℕ) (p : P A) (b : Bits) (at e o : ℕ) {r pl m : ℕ} → run (within n back p) b at e o ≡ no r pl m
    → (at + n ≤ e → run p b at (at + n) past_declared ≡ no r pl m → X) → (e < at + n → X) → X
element_no n back p b at e o h f g = by_end (at + n) e (λ l. f l (closed_no _ _ (sym (within_is n back p b at e o l) ∙ h))) g

-- the same, with the bits by which the declared end passes
pub element-past : {A X : Type 0} (n back : ℕ) (p : P A) (b : Bits) (at e o : ℕ) {r pl m : ℕ} → run (within n back p) b at e o ≡ no r pl m
    → (at + n ≤ e → run p b at (at + n) past_declared ≡ no r pl m → X)
    → ((e < at + n) × (o ≡ r) × (at - back ≡ pl) × (at + n - e ≡ m) → X) → X
element-past n back p b at e o h f g =
    element_no n back p b at e o h f
    (λ l. let x = same_no (sym (stop-refuses b (size-passes {p = p} l)) ∙ h) in g (l, x.0, x.1, x.2))

-- a field that is refused passes the end, and lacks the bits by which it does
pub field_past : {A : Type 0} (w : ℕ) (f : List ℕ → A) (b : Bits) (at e o : ℕ) {r pl m : ℕ} → run (field w f) b at e o ≡ no r pl m
    → (e < at + w) × (o ≡ r) × (at ≡ pl) × (at + w - e ≡ m)
field_past w f b at e o h =
    by_order (at + w) e (λ l. absurd (no_ok (sym h ∙ field_is w f b at e o l)))
    (λ l. let x = same_no (sym (stop-refuses b (field-passes {f = f} l)) ∙ h) in (l, x.0, x.1, x.2))

stops_at : {A : Type 0} (p : P A) (b : Bits) (at e o : ℕ) {r pl m : ℕ} → run p b at e o ≡ no r pl m → Stops p b at e o r pl m
stops_at (give a) b at e o h = absurd (give_no a b at e o h)
stops_at (refuse i back) b at e o h = stops_here refuses h
stops_at (field w f) b at e o h = by_end (at + w) e (λ l. absurd (no_ok (sym h ∙ field_is w f b at e o l))) (λ l. stops_here (field-passes l) h)
stops_at (within n back p) b at e o h =
    element_no n back p b at e o h (λ l x. stops_in (inside l here) (stops_at p b at (at + n) past_declared x)) (λ l. stops_here (size-passes l) h)
stops_at (p >>= k) b at e o h =
    bind_no p k b at e o h (λ x. stops_in (first here) (stops_at p b at e o x)) (λ a mid x y. stops_in (behind x here) (stops_at (k a) b mid e o y))

-- A reader refuses exactly when its reading comes to a step that stops, and then with that step's number, place and missing bits: the first such step, since
-- whatever stands before it has been read.
pub refused_when-stopped : {A : Type 0} (p : P A) (b : Bits) (at e o r pl m : ℕ) → (run p b at e o ≡ no r pl m) ↔ Stops p b at e o r pl m
refused_when-stopped p b at e o r pl m = (stops_at p b at e o, λ x. refused_there x.comes (stop-refuses b x.stop))

-- So a reader that accepts comes to none.
pub accepted-never_stops : {A : Type 0} (p : P A) (b : Bits) (at e o : ℕ) {v : A} {to r pl m : ℕ} → run p b at e o ≡ ok v to → Stops p b at e o r pl m → ⊥
accepted-never_stops p b at e o {v} {to} {r} {pl} {m} h x = no_ok (sym ((refused_when-stopped p b at e o r pl m).1 x) ∙ h)

-- where p stops, if it does: the position, and the end and the refusal to which it is then held
abbrev behind_or : {A X : Type 0} → Res A → (A → ℕ → X) → X → X
behind_or (ok a to) k x = k a to
behind_or (no r pl m) k x = x

unfoldable stop_at : {A : Type 0} → P A → Bits → ℕ → ℕ → ℕ → ℕ × ℕ × ℕ
stop_at (give a) b at e o = (at, e, o)
stop_at (refuse r back) b at e o = (at, e, o)
stop_at (field w f) b at e o = (at, e, o)
stop_at (within n back p) b at e o = pick (leb (at + n) e) (stop_at p b at (at + n) past_declared) (at, e, o)
stop_at (p >>= k) b at e o = behind_or (run p b at e o) (λ a to. stop_at (k a) b to e o) (stop_at p b at e o)

stops_there : {b : Bits} {B : Type 0} {q : P B} {to end over : ℕ} {A : Type 0} {p : P A} {at e o r pl m : ℕ} → Comes p b at e o q to end over → Stop to end over B q r pl m
    → stop_at p b at e o ≡ (to, end, over)
unfolding stop_at
stops_there here (field-passes l) = refl
stops_there here (size-passes l) = rw (lt-leb _ _ l)
stops_there here refuses = refl
stops_there (inside l x) s = rw (le-leb _ _ l) (stops_there x s)
stops_there {b = b} (first x) s = rw (refused_there x (stop-refuses b s)) (stops_there x s)
stops_there (behind h x) s = rw h (stops_there x s)

-- And there is one such step: two that stop stand at one position, held to one end with one refusal.
pub one-stop : {A B C : Type 0} {p : P A} {b : Bits} {q : P B} {q' : P C} {at e o to end over r pl m to' end' over' r' pl' m' : ℕ}
    → Comes p b at e o q to end over → Stop to end over B q r pl m → Comes p b at e o q' to' end' over' → Stop to' end' over' C q' r' pl' m'
    → (to ≡ to') × (end ≡ end') × (over ≡ over')
one-stop x s x' s' =
    let same = sym (stops_there x s) ∙ stops_there x' s' in
    (ap (λ (t : ℕ × ℕ × ℕ). t.0) same, ap (λ (t : ℕ × ℕ × ℕ). t.1) same, ap (λ (t : ℕ × ℕ × ℕ). t.2) same)

-- ---- what is plain but for marked readers

-- a plain reader that refuses comes, still held to its own end, to a field that passes it, or to a marked reader that refuses so; or the number is its own
pub data Halts (M : (A : Type 0) → P A → Type 1) (Q : ℕ → Type 0) {A : Type 0} (p : P A) (b : Bits) (at e o r pl m : ℕ) : Type 1 where
  at_field : {B : Type 0} {w : ℕ} {f : List ℕ → B} → Comes p b at e o (field w f) pl e o → e < pl + w → r ≡ o → Halts M Q p b at e o r pl m
  at-marked : {B : Type 0} {q : P B} {to : ℕ} → M B q → Comes p b at e o q to e o → run q b to e o ≡ no r pl m → Halts M Q p b at e o r pl m
  of-own : Q r → Halts M Q p b at e o r pl m

halts_in : {M : (A : Type 0) → P A → Type 1} {Q : ℕ → Type 0} {A B : Type 0} {p : P A} {q : P B} {b : Bits} {at to e o r pl m : ℕ}
    → Comes p b at e o q to e o → Halts M Q q b to e o r pl m → Halts M Q p b at e o r pl m
halts_in x (at_field c l i) = at_field (comes-on x c) l i
halts_in x (at-marked k c h) = at-marked k (comes-on x c) h
halts_in x (of-own y) = of-own y

pub halts : {M : (A : Type 0) → P A → Type 1} {Q : ℕ → Type 0} {A : Type 0} {p : P A} (b : Bits) (at e o : ℕ) {r pl m : ℕ} → Plain M Q A p
    → run p b at e o ≡ no r pl m → Halts M Q p b at e o r pl m
halts b at e o (marked k) h = at-marked k here h
halts b at e o giving h = absurd (give_no _ b at e o h)
halts b at e o (refusing {r = i} {back = back} q) h = of-own (rw (refuse_no i back b at e o h).0 q)
halts {M} {Q} b at e o {r} {pl} {m} (reads {w = w} {f = f}) h =
    let i = field_no w f b at e o h in
    by_end (at + w) e (λ l. absurd (no_ok (sym h ∙ field_is w f b at e o l)))
    (λ l. at_field (subst (λ (n : ℕ). Comes (field w f) b at e o (field w f) n e o) (sym i.1) here) (omega arith) i.0)
halts b at e o (both {p = p} {k = k} x y) h =
    bind_no p k b at e o h (λ i. halts_in (first here) (halts b at e o x i)) (λ a mid i j. halts_in (behind i here) (halts b mid e o (y a) j))

-- for the readers that are no step of the tree
pub plain-pick : {M : (A : Type 0) → P A → Type 1} {Q : ℕ → Type 0} {A : Type 0} (t : Bool) (p q : P A) → Plain M Q A p → Plain M Q A q
    → Plain M Q A (pick t p q)
plain-pick true p q x y = x
plain-pick false p q x y = y

pub plain-each : {M : (A : Type 0) → P A → Type 1} {Q : ℕ → Type 0} {X A : Type 0} (f : X → P A) (xs : List X) → ((x : X) → Plain M Q A (f x))
    → Plain M Q (List A) (each f xs)
unfolding each
plain-each f [] h = giving
plain-each f (x ∷ xs) h = both (h x) (λ a. both (plain-each f xs h) (λ rest. giving))

pub ruleset plainly = (plain-pick, plain-each, marked, giving, refusing, reads, both)
