-- The cursor keeps the first refusal that it meets: a law for each way to move it on, for steps in a line, for loops, and for an element.
use mathlib.Core.Path.{◌≡◌, refl, sym, ap, ◌∙◌}
use mathlib.Core.Bool.{Bool, true, false}
use mathlib.Core.List.{List, [], ◌∷◌, ◌++◌, append_assoc, append-nil}
use Prim.Native.Nat.{ℕ, ◌+◌, ◌-◌, ◌≤◌, ◌<◌}
use native.Mathlib.Omega.{arith}
use native.Mathlib.Nat.{sub-zero}
use lib.Dec.{leb, eqb}
use borrow.Author.Tests.{le-leb, lt-leb, leb-true, ne_eqb, eqb-true, eqb-false}
use Rattle.units.specs.declared.BitPos.{BitPos}
use Rattle.bits.specs.declared.Cur.{Cur}
use Rattle.bits.specs.declared.Limit.{Limit}
use Rattle.bits.specs.Language.{Res, ok, no, pick, Bits, slice, P, give, refuse, field, within, ◌>>=◌, and_then, run, each, from, for}
use Rattle.bits.specs.Steps.{no_ok}
use Rattle.bits.specs.Laws.{from_next, from_none}
use Rattle.bits.specs.View.{over_of, go_on, run_from, Reads, Gave, valued, open_at, inner_of, close_at}
use Rattle.bits.specs.Unique.{begun}

-- two readers that answer alike from everywhere
abbrev pub Alike : {A : Type 0} → P A → P A → Type 0
Alike p q = (b : Bits) (at e o : ℕ) → run p b at e o ≡ run q b at e o

over-eqb : (t : Bool) → eqb (over_of t) 0 ≡ false
over-eqb true = refl
over-eqb false = refl

over-pos : (t : Bool) → over_of t ≡ 0 → ⊥
over-pos true h = omega arith
over-pos false h = omega arith

-- ---- one step from the cursor c, within the limit l

module _ {b : Bits} {c : Cur} {l : Limit} where
  -- a refusal stays
  pub kept : {A : Type 0} {p : P A} {v : A} {x : ℕ} → (c.no ≡ 0 → ⊥) → Reads p b c l v (valued c x)
  kept h = record { same = rw (ne_eqb c.no 0 h); handed = λ z. refl }

  -- a field that does not fit
  pub short : {A : Type 0} {w m n x : ℕ} {f : List ℕ → A} {v : A} → c.no ≡ 0 → l.end.0 < c.at.0 + w → m ≡ c.at.0 + w - l.end.0
      → n ≡ over_of l.inner → Reads (field w f) b c l v (record { v = x; missing = m; at = c.at; no = n })
  unfolding run
  short {w = w} r h g q = record {
    same = rw (g, q, r, over-eqb l.inner, lt-leb (c.at.0 + w) l.end.0 h);
    handed = λ z. absurd (over-pos l.inner (sym q ∙ z));
  }

  -- a field that fits
  pub whole : {A : Type 0} {w m x : ℕ} {f : List ℕ → A} {v : A} {at : BitPos} → c.no ≡ 0 → c.at.0 + w ≤ l.end.0 → at.0 ≡ c.at.0 + w
      → m ≡ c.missing → v ≡ f (slice b c.at.0 w) → Reads (field w f) b c l v (record { v = x; missing = m; at = at; no = 0 })
  unfolding run
  whole {w = w} r h t g q = record { same = rw (r, le-leb (c.at.0 + w) l.end.0 h, q, t); handed = λ z. g }

  -- nothing is read
  pub plain : {A : Type 0} {v : A} → Reads (give v) b c l v c
  unfolding run
  plain = record { same = refl; handed = λ z. refl }

  -- nor here, and the cursor gets another value
  pub plain' : {A : Type 0} {v : A} {x : ℕ} → Reads (give v) b c l v (valued c x)
  unfolding run
  plain' = record { same = refl; handed = λ z. refl }

  -- a refusal, back bits before the cursor
  pub banned : {A : Type 0} {x r back : ℕ} {v : A} {n : ℕ} {at : BitPos} → c.no ≡ 0 → at.0 ≡ c.at.0 - back → n ≡ r → 0 < n
      → Reads (refuse r back) b c l v (record { v = x; missing = 0; at = at; no = n })
  unfolding run
  banned {n = n} z q e h = record { same = rw (z, q, ne_eqb n 0 (λ y. omega arith), e); handed = λ y. absurd (omega arith) }

  -- an element that fits is read up to its own end, and the cursor comes to that end
  pub inside : {A : Type 0} {p : P A} {d : Cur} {v : A} {x n back : ℕ} → c.no ≡ 0 → c.at.0 + n ≤ l.end.0
      → Reads p b c (record { end = record { 0 = c.at.0 + n }; inner = true }) v d → d.no ≡ 0
      → Reads (within n back p) b c l v (record { v = x; missing = d.missing; at = record { 0 = c.at.0 + n }; no = 0 })
  unfolding run
  inside {n = n} z f r q = record {
    same = rw (z, le-leb (c.at.0 + n) l.end.0 f) (rw (← (rw (z, q) at r.same)));
    handed = λ y. r.handed q;
  }

  -- something in it is refused
  pub inside_no : {A : Type 0} {p : P A} {d : Cur} {v : A} {n back : ℕ} → c.no ≡ 0 → c.at.0 + n ≤ l.end.0
      → Reads p b c (record { end = record { 0 = c.at.0 + n }; inner = true }) v d → (d.no ≡ 0 → ⊥) → Reads (within n back p) b c l v d
  unfolding run
  inside_no {d = d} {n = n} z f r q =
      record {
        same = rw (z, le-leb (c.at.0 + n) l.end.0 f, ne_eqb d.no 0 q) (rw (← (rw (z, ne_eqb d.no 0 q) at r.same)));
        handed = λ y. absurd (q y);
      }

-- ---- steps in a line

joined : {A B : Type 0} {p : P A} (k : A → P B) {b : Bits} {c d : Cur} {l : Limit} {v : A} → Reads p b c l v d → run_from (k v) b d l ≡ run_from (p >>= k) b c l
unfolding run
joined {p = p} k {b} {c} {d} {l} {v} x = go (eqb d.no 0) (eqb c.no 0) x.same
  where
    go : (s t : Bool)
        → pick s (ok v d.at.0) (no d.no d.at.0 d.missing)
        ≡ pick t (run p b c.at.0 l.end.0 (over_of l.inner)) (no c.no c.at.0 c.missing)
        → pick s (run (k v) b d.at.0 l.end.0 (over_of l.inner)) (no d.no d.at.0 d.missing)
        ≡ pick t (and_then (run p b c.at.0 l.end.0 (over_of l.inner)) (λ a to. run (k a) b to l.end.0 (over_of l.inner)))
        (no c.no c.at.0 c.missing)
    go true true q = rw (← q)
    go true false q = absurd (no_ok (sym q))
    go false true q = rw (← q)
    go false false q = cc

-- the cursor gets another value beside the one that was read
pub renewed : {A : Type 0} {p : P A} {b : Bits} {c d e : Cur} {l : Limit} {v : A} {x : ℕ} → e ≡ valued d x → Reads p b c l v d → Reads p b c l v e
renewed h r = rw h (record { same = r.same; handed = r.handed })

-- the last step of a function that gives a value beside the cursor
pub emptied : {A : Type 0} {p : P A} {b : Bits} {c d e : Cur} {l : Limit} {v : A} → e ≡ valued d 0 → Reads p b c l v d → Gave p b c l v e
emptied h r = record { reads = renewed h r; empty = rw h }

pub bind : {A B : Type 0} {p : P A} {k : A → P B} {b : Bits} {c d f : Cur} {l : Limit} {v : A} {w : B}
    → Reads p b c l v d → Reads (k v) b d l w f → Reads (p >>= k) b c l w f
bind {k = k} x y = record { same = y.same ∙ joined k x; handed = λ z. y.handed z ∙ x.handed (begun y z) }

-- ---- loops: of the reader p at c, q is left to do at d

pub record Left {A : Type 0} (p : P A) (b : Bits) (c : Cur) (l : Limit) (q : P A) (d : Cur) : Type 0 where
  pub same : run_from q b d l ≡ run_from p b c l
  pub handed : d.no ≡ 0 → d.missing ≡ c.missing

pub start : {A : Type 0} {p : P A} {b : Bits} {c : Cur} {l : Limit} → Left p b c l p c
start = record { same = refl; handed = λ z. refl }

pub step : {A B : Type 0} {p : P B} {q : P A} {k : A → P B} {b : Bits} {c d f : Cur} {l : Limit} {v : A}
    → Left p b c l (q >>= k) d → Reads q b d l v f → Left p b c l (k v) f
step {k = k} x r = record { same = joined k r ∙ x.same; handed = λ z. r.handed z ∙ x.handed (begun r z) }

pub done : {A : Type 0} {p : P A} {b : Bits} {c d : Cur} {l : Limit} {v : A} → Left p b c l (give v) d → Reads p b c l v d
unfolding run
done x = record { same = x.same; handed = x.handed }

-- what is left, said in another way
pub turned : {A : Type 0} {p q q' : P A} {b : Bits} {c d : Cur} {l : Limit} → Alike q' q → Left p b c l q d → Left p b c l q' d
turned {b = b} {d = d} {l} h x =
    record {
      same = ap (λ (r : _). pick (eqb d.no 0) r (no d.no d.at.0 d.missing)) (h b d.at.0 l.end.0 (over_of l.inner)) ∙ x.same;
      handed = x.handed;
    }

-- a refusal ends the loop, whatever the value
pub broken : {A : Type 0} {p q : P A} {b : Bits} {c d : Cur} {l : Limit} {v : A} → Left p b c l q d → (d.no ≡ 0 → ⊥) → Reads p b c l v d
broken {d = d} x h = record { same = rw (ne_eqb d.no 0 h) (rw (ne_eqb d.no 0 h) at x.same); handed = λ z. absurd (h z) }

-- a head and a rest, and what g does with both: the rest can be left to g
pub unroll : {A L M B : Type 0} (p : P A) (q : A → P L) (h : A → L → M) (g : M → P B)
    → Alike (p >>= λ a. q a >>= λ m. g (h a m)) ((p >>= λ a. q a >>= λ m. give (h a m)) >>= g)
unfolding run
unroll p q h g b at e o = outer (run p b at e o)
  where
    inner : (a : _) (r : Res _)
        → and_then r (λ m to. run (g (h a m)) b to e o) ≡ and_then (and_then r (λ m to. ok (h a m) to)) (λ x to. run (g x) b to e o)
    inner a (ok m to) = refl
    inner a (no r pl m) = refl

    outer : (r : Res _) → and_then r (λ a to. and_then (run (q a) b to e o) (λ m to. run (g (h a m)) b to e o))
        ≡ and_then (and_then r (λ a to. and_then (run (q a) b to e o) (λ m to. ok (h a m) to))) (λ x to. run (g x) b to e o)
    outer (ok a to) = inner a (run (q a) b to e o)
    outer (no r pl m) = refl

pub given : {A B : Type 0} (a : A) (g : A → P B) → Alike (g a) (give a >>= g)
unfolding run
given a g b at e o = refl

-- a reader for each entry of a list, of which the first is read; and none is left
pub each_step : {X A B : Type 0} {p : P B} (f : X → P A) (x : X) (xs : List X) (g : List A → P B) {b : Bits} {c d d' : Cur} {l : Limit} {v : A}
    → Left p b c l (each f (x ∷ xs) >>= g) d → Reads (f x) b d l v d' → Left p b c l (each f xs >>= λ rest. g (v ∷ rest)) d'
unfolding each
each_step f x xs g h r = step (turned (unroll (f x) (λ a. each f xs) (λ a rest. a ∷ rest) g) h) r

pub each-stop : {X A B : Type 0} {p : P B} (f : X → P A) (g : List A → P B) {b : Bits} {c d : Cur} {l : Limit}
    → Left p b c l (each f [] >>= g) d → Left p b c l (g []) d
unfolding each
each-stop f g h = turned (given [] g) h

-- what `for n f` has left behind i turns that gave the values vs; h is what is made of all
abbrev pub turns : {A B : Type 0} → ℕ → (ℕ → P A) → (List A → P B) → ℕ → List A → P B
turns n f h i vs = each f (from i (n - i)) >>= λ rest. h (vs ++ rest)

module _ {A B : Type 0} (n : ℕ) (f : ℕ → P A) (h : List A → P B) {b : Bits} {c : Cur} {l : Limit} where
  pub for_start : Left (for n f >>= h) b c l (turns n f h 0 []) c
  for_start = rw (sub-zero n) start

  pub for_step : (i : ℕ) (vs : List A) {p : P B} {v : A} {d d' : Cur} → i < n → Left p b c l (turns n f h i vs) d → Reads (f i) b d l v d'
      → Left p b c l (turns n f h (i + 1) (vs ++ (v ∷ []))) d'
  for_step i vs q x r =
      simp append_assoc (each_step f i (from (i + 1) (n - (i + 1))) (λ rest. h (vs ++ rest)) (rw (from_next i n q) at x) r)

  pub for-stop : (i : ℕ) (vs : List A) {p : P B} {d : Cur} → n ≤ i → Left p b c l (turns n f h i vs) d → Left p b c l (h vs) d
  for-stop i vs q x = rw (append-nil vs) at (each-stop f (λ rest. h (vs ++ rest)) (rw (from_none i n q) at x))

-- ---- an element: it is opened, what is in it is held to its own limit, and it is closed

-- from a refused cursor every reader leads to that refusal
refused : {A : Type 0} {p : P A} {b : Bits} {c d : Cur} {l : Limit} {v : A} → Reads p b c l v d → (c.no ≡ 0 → ⊥)
    → (d.no ≡ 0 → ⊥) × (go_on d (λ at. ok v at) ≡ no c.no c.at.0 c.missing)
refused {c = c} {d} {v = v} r h = go (eqb d.no 0) refl (rw (ne_eqb c.no 0 h) at r.same)
  where
    go : (t : Bool) → eqb d.no 0 ≡ t → go_on d (λ at. ok v at) ≡ no c.no c.at.0 c.missing
        → (d.no ≡ 0 → ⊥) × (go_on d (λ at. ok v at) ≡ no c.no c.at.0 c.missing)
    go true q z = absurd (no_ok (sym (rw q at z)))
    go false q z = (eqb-false d.no 0 q, z)

pub framing : (A : Type 0) (n back : ℕ) (p : P A) (b : Bits) (c o e d : Cur) (l i : Limit) (v : A)
    → o ≡ open_at l c n back → i ≡ inner_of l c n → Reads p b o i v e → d ≡ close_at e i → Reads (within n back p) b c l v d
unfolding open_at inner_of close_at run
framing A n back p b c o e d l i v ho hi r hd = cases (eqb c.no 0) refl (leb (c.at.0 + n) l.end.0) refl
  where
    stopped : (e.no ≡ 0 → ⊥) → d ≡ e
    stopped h = rw (ne_eqb e.no 0 h) at hd

    read : (c.no ≡ 0) → (c.at.0 + n ≤ l.end.0) → Reads p b c (record { end = record { 0 = c.at.0 + n }; inner = true }) v e
        → i ≡ record { end = record { 0 = c.at.0 + n }; inner = true } → (t : Bool) → eqb e.no 0 ≡ t → Reads (within n back p) b c l v d
    read z f x y true q = rw (rw (q, y) at hd) (inside z f x (eqb-true e.no 0 q))
    read z f x y false q = rw (stopped (eqb-false e.no 0 q)) (inside_no z f x (eqb-false e.no 0 q))

    cases : (t : Bool) → eqb c.no 0 ≡ t → (u : Bool) → leb (c.at.0 + n) l.end.0 ≡ u → Reads (within n back p) b c l v d
    cases false q u w =
        let s = refused (rw (rw q at ho) at r) (eqb-false c.no 0 q) in
        rw (stopped s.0) (record { same = s.1 ∙ rw q; handed = λ z. absurd (s.0 z) })
    cases true q true w =
        let y = rw w at hi in
        read (eqb-true c.no 0 q) (leb-true _ _ w) (rw (rw (q, w) at ho, y) at r) y (eqb e.no 0) refl
    cases true q false w =
        let s = refused (rw (rw (q, w) at ho) at r) (λ z. over-pos l.inner z) in
        rw (stopped s.0) (record { same = s.1 ∙ rw (q, w); handed = λ z. absurd (s.0 z) })

-- ---- the rules of `search reading`, which closes a line of calls: their arguments are written, as `search` wants them

pub then : (A B : Type 0) (p : P A) (k : A → P B) (b : Bits) (c d f : Cur) (l : Limit) (v : A) (w : B)
    → Reads p b c l v d → Reads (k v) b d l w f → Reads (p >>= k) b c l w f
then A B p k b c d f l v w x y = bind x y

pub gives : (A : Type 0) (v : A) (b : Bits) (c : Cur) (l : Limit) → Reads (give v) b c l v c
gives A v b c l = plain

pub gives' : (A : Type 0) (v : A) (b : Bits) (c : Cur) (l : Limit) (x : ℕ) → Reads (give v) b c l v (valued c x)
gives' A v b c l x = plain'

-- the cursor of `with_value`, beside another value and for the value itself
pub sets : (A : Type 0) (v : A) (b : Bits) (c d : Cur) (l : Limit) (x : ℕ) → d ≡ valued c x → Reads (give v) b c l v d
sets A v b c d l x h = rw h plain'

pub sets' : (v : ℕ) (b : Bits) (c d : Cur) (l : Limit) → d ≡ valued c v → Reads (give v) b c l d.v d
sets' v b c d l h = rw h plain'

pub ruleset reading = (then, gives, gives', sets, sets', framing)
