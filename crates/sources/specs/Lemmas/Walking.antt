-- The same with positions: where reading comes to a reader, by what was read before it. So code that reads a payload again from its first bit on knows where it stands.
use Rattle.std.specs.Prelude.{◌≡◌, refl, Bool, true, false, ℕ, zero, suc, ◌+◌, ◌-◌, ◌≤◌, ◌<◌, eqb, length, get_or}
use Rattle.std.proofs.Common.{sym, ◌∙◌, subst, eqb-true}
use Rattle.std.proofs.Math.Path.{ap, subst₂}
use mathlib.Core.List.{List, [], ◌∷◌, ◌++◌}
use native.Mathlib.Omega.{arith}
use Rattle.bits.specs.declared.Cur.{Cur}
use Rattle.bits.specs.declared.Limit.{Limit}
use Rattle.bits.specs.declared.Size.{Size}
use Rattle.bits.specs.Language.{Res, ok, no, pick, and_then, Bits, P, give, ◌>>=◌, run, bits, bits_if, bit, number, each, from, for, past_declared}
use Rattle.bits.specs.Steps.{no_ok, ok_at, bind_ok, bind_is, give_ok, give_is, within_is, field_ok}
use Rattle.bits.specs.Laws.{length_from, local}
use Rattle.bits.specs.Size.{variable_bits_max}
use Rattle.bits.specs.View.{over_of, Reads}
use Rattle.oamd.specs.declared.Kind.{Kind}
use Rattle.oamd.specs.Programme.{set?}
use Rattle.oamd.specs.Element.{kind, declared_length, framed, frame}
use Rattle.demands.specs.Lemmas.Frame.{size-goes, alternate-goes, body_at, end_at}
use Rattle.sources.specs.Places.{entry}
use Rattle.sources.specs.Where.{bit_of}
use Rattle.sources.specs.Lemmas.Meeting.{Meets, next, line, held}

-- reading comes to p at a position, and goes on somewhere behind it
pub record Here {A : Type 0} (s : List ℕ) (way : List ℕ → List ℕ) (p : P A) (v : A) (at e o : ℕ) : Type 0 where
  pub to : ℕ
  pub meets : Meets s way p v at e o to

pub here : {A : Type 0} {s : List ℕ} {way : List ℕ → List ℕ} {p : P A} {v : A} {at e o to : ℕ} → Meets s way p v at e o to → Here s way p v at e o
here {to = to} m = record { to = to; meets = m }

-- the same along paths that are said in another way
pub along : {A : Type 0} {s : List ℕ} (way : List ℕ → List ℕ) {way' : List ℕ → List ℕ} {p : P A} {v : A} {at e o : ℕ}
    → ((n : ℕ) (path : List ℕ) → way' (n ∷ path) ≡ way (n ∷ path)) → Here s way p v at e o → Here s way' p v at e o
along {s = s} way h m = record { to = m.to; meets = record { ran = m.meets.ran; comes = λ n path. ap (bit_of s) (h n path) ∙ m.meets.comes n path } }

-- ---- over a line

-- a reader gives one answer
pub one_value : {A : Type 0} {r : Res A} {a b : A} {m n : ℕ} → r ≡ ok a m → r ≡ ok b n → a ≡ b
one_value h g = cc

pub one_place : {A : Type 0} {r : Res A} {a b : A} {m n : ℕ} → r ≡ ok a m → r ≡ ok b n → m ≡ n
one_place h g = cc

pub over : {A B : Type 0} {s : List ℕ} {way : List ℕ → List ℕ} {p : P A} {k : A → P B} {v : B} {at e o mid : ℕ} {a : A} → Here s way (p >>= k) v at e o
    → run p (bit s) at e o ≡ ok a mid → Here s (λ l. way (next l)) (k a) v mid e o
over {s = s} {way} {k = k} {v} {e = e} {o} m h =
    let t = line m.meets in
    subst₂ (λ (a : _) (mid : ℕ). Here s (λ l. way (next l)) (k a) v mid e o) (one_value t.here.ran h) (one_place t.here.ran h) (here t.rest)

-- ---- with a cursor

-- what a call read from the cursor c on, where what is read there goes on
pub record Stepped {A : Type 0} (p : P A) (b : Bits) (c : Cur) (l : Limit) (v : A) (d : Cur) : Type 0 where
  pub good : d.no ≡ 0
  pub ran : run p b c.at.0 l.end.0 (over_of l.inner) ≡ ok v d.at.0

pub stepped : {A : Type 0} {p : P A} {b : Bits} {c d : Cur} {l : Limit} {v w : A} {to : ℕ} → c.no ≡ 0
    → run p b c.at.0 l.end.0 (over_of l.inner) ≡ ok w to → Reads p b c l v d → Stepped p b c l v d
stepped {p = p} {b} {c} {d} {l} {v} {w} {to} z h r = go (eqb d.no 0) refl (rw z at r.same)
  where
    go : (t : Bool) → eqb d.no 0 ≡ t → pick t (ok v d.at.0) (no d.no d.at.0 d.missing) ≡ run p b c.at.0 l.end.0 (over_of l.inner) → Stepped p b c l v d
    go true q g = record { good = eqb-true d.no 0 q; ran = sym g }
    go false q g = absurd (no_ok (g ∙ h))

-- the cursor c, held to l, stands where reading comes to p
pub record On {A : Type 0} (s : List ℕ) (way : List ℕ → List ℕ) (p : P A) (v : A) (c : Cur) (l : Limit) : Type 0 where
  pub good : c.no ≡ 0
  pub within : c.at.0 ≤ l.end.0
  pub here : Here s way p v c.at.0 l.end.0 (over_of l.inner)

module _ {A B : Type 0} {s : List ℕ} {way : List ℕ → List ℕ} {p : P A} {k : A → P B} {v : B} {c d : Cur} {l : Limit} {w : A} where
  -- a call read the line there
  pub on_over : On s way (p >>= k) v c l → Reads p (bit s) c l w d → On s (λ l. way (next l)) (k w) v d l
  on_over m r =
      let t = line m.here.meets in
      let x = stepped m.good t.here.ran r in
      record { good = x.good; within = (local p (bit s) _ _ _ x.ran m.within).fits; here = over m.here x.ran }

-- a call read what stands there
pub on_read : {A : Type 0} {s : List ℕ} {way : List ℕ → List ℕ} {p : P A} {v w : A} {c d : Cur} {l : Limit} → On s way p v c l → Reads p (bit s) c l w d → w ≡ v
on_read m r = one_value (stepped m.good m.here.meets.ran r).ran m.here.meets.ran

-- ---- an entry of a loop, behind the entries before it

module _ {X A : Type 0} {s : List ℕ} {e o : ℕ} (f : X → P A) where
  entry-behind : (xs : List X) (x : X) (ys : List X) {way : List ℕ → List ℕ} {v us : List A} {at mid : ℕ} (blank : A) → Here s way (each f (xs ++ (x ∷ ys))) v at e o
      → run (each f xs) (bit s) at e o ≡ ok us mid → Here s (λ l. way (entry (length xs) ++ l)) (f x) (get_or v (length xs) blank) mid e o
  unfolding each
  entry-behind [] x ys {way} {v} {at = at} {mid} blank m r =
      let first = line m.meets in
      let others = line first.rest in
      let is = (give_ok _ (bit s) _ e o others.rest.ran).0 in
      subst₂ (λ (v : List A) (at : ℕ). Here s (λ l. way (entry 0 ++ l)) (f x) (get_or v 0 blank) at e o) is (sym (give_ok [] (bit s) at e o r).1) (here first.here)
  entry-behind (z ∷ xs) x ys {way} {v} {us} {at} {mid} blank m r =
      bind_ok (f z) _ (bit s) at e o r λ a p1 h1 r1.
      bind_ok (each f xs) _ (bit s) p1 e o r1 λ vs p2 h2 r2.
      let others = line (over m h1).meets in
      let is = (give_ok _ (bit s) _ e o others.rest.ran).0 in
      subst₂ (λ (v : List A) (at : ℕ). Here s (λ l. way (entry (suc (length xs)) ++ l)) (f x) (get_or v (suc (length xs)) blank) at e o) is (sym (give_ok _ (bit s) p2 e o r2).1)
      (entry-behind xs x ys blank (here others.here) h2)

-- entries before others are read
entries-before : {X A : Type 0} (f : X → P A) (xs ys : List X) (b : Bits) (at e o : ℕ) {v : List A} {to : ℕ} → run (each f (xs ++ ys)) b at e o ≡ ok v to
    → (us : List A) × (mid : ℕ) × (run (each f xs) b at e o ≡ ok us mid)
unfolding each
entries-before f [] ys b at e o h = ([], at, give_is [] b at e o)
entries-before f (x ∷ xs) ys b at e o h =
    bind_ok (f x) _ b at e o h λ a p1 h1 r1.
    bind_ok (each f (xs ++ ys)) _ b p1 e o r1 λ vs p2 h2 r2.
    let t = entries-before f xs ys b p1 e o h2 in
    (a ∷ t.0, t.1, bind_is (f x) _ b at e o h1 ∙ bind_is (each f xs) _ b p1 e o t.2 ∙ give_is (a ∷ t.0) b t.1 e o)

-- the numbers around one of them
from-around : (i k m : ℕ) → from i (k + suc m) ≡ from i k ++ ((i + k) ∷ from (suc (i + k)) m)
unfolding from
from-around i zero m =
    let e : 0 + suc m ≡ suc m = omega arith in
    let f : i + 0 ≡ i = omega arith in
    rw (e, f)
from-around i (suc k) m =
    let e : suc k + suc m ≡ suc (k + suc m) = omega arith in
    let f : suc i + k ≡ i + suc k = omega arith in
    rw (e, ← f) (ap (λ (l : List ℕ). i ∷ l) (from-around (suc i) k m))

turns-around : (n k : ℕ) → k < n → from 0 n ≡ from 0 k ++ (k ∷ from (suc k) (n - suc k))
turns-around n k l =
    ap (from 0) (let e : n ≡ k + suc (n - suc k) = omega arith in e) ∙ from-around 0 k (n - suc k)
    ∙ ap (λ (i : ℕ). from 0 k ++ (i ∷ from (suc i) (n - suc k))) (let e : 0 + k ≡ k = omega arith in e)

-- turn k of n, behind a call that read k turns
pub on-turn : {A : Type 0} {s : List ℕ} {way : List ℕ → List ℕ} (n k : ℕ) (f : ℕ → P A) {v us : List A} {c d : Cur} {l : Limit} (blank : A) → k < n → On s way (for n f) v c l
    → Reads (for k f) (bit s) c l us d → On s (λ l. way (entry k ++ l)) (f k) (get_or v k blank) d l
on-turn {A} {s} {way} n k f {v} {us} {c} {d} {l} blank below m r =
    let parts = turns-around n k below in
    let split : Here s way (each f (from 0 k ++ (k ∷ from (suc k) (n - suc k)))) v c.at.0 l.end.0 (over_of l.inner) =
    subst (λ (is : List ℕ). Here s way (each f is) v c.at.0 l.end.0 (over_of l.inner)) parts m.here in
    let before = entries-before f (from 0 k) (k ∷ from (suc k) (n - suc k)) (bit s) _ _ _ split.meets.ran in
    let x = stepped m.good before.2 r in
    record {
      good = x.good;
      within = (local (for k f) (bit s) _ _ _ x.ran m.within).fits;
      here = rw (length_from 0 k) at (entry-behind f (from 0 k) k (from (suc k) (n - suc k)) blank split x.ran);
    }

-- ---- the frame of an element

-- its kind and size, which every reader of frames finds, and what stands inside
pub record Framed {A : Type 0} (s : List ℕ) (way : List ℕ → List ℕ) (alternate : ℕ) (f : Kind → Size → P A) (v : A) (at e o : ℕ) : Type 0 where
  pub kind : Kind
  pub size : Size
  pub room : body_at at alternate size ≤ end_at at size
  pub fits : end_at at size ≤ e
  pub inside : Here s (λ l. way (next (next (next (next l))))) (f kind size) v (body_at at alternate size) (end_at at size) past_declared
  pub passed : run (framed alternate f) (bit s) at e o ≡ ok v (end_at at size)
  pub read : run (frame alternate) (bit s) at e o ≡ ok (record { kind = kind; size = size }) (end_at at size)
  pub known : run (framed alternate (λ k size. give k)) (bit s) at e o ≡ ok kind (end_at at size)

module _ {A : Type 0} {s : List ℕ} {way : List ℕ → List ℕ} (alternate : ℕ) (f : Kind → Size → P A) {v : A} {at e o : ℕ} where
  -- by what was read of it, one after the other
  framed_by : (id p : ℕ) (size : Size) (start other q d body : ℕ) → run (bits 4) (bit s) at e o ≡ ok id p → run variable_bits_max (bit s) p e o ≡ ok size start
      → start + declared_length size ≤ e → run (bits_if (set? alternate) 4) (bit s) start (start + declared_length size) past_declared ≡ ok other q
      → run (bits 1) (bit s) q (start + declared_length size) past_declared ≡ ok d body
      → Here s (λ l. way (next (next (next (next l))))) (f (kind id other) size) v body (start + declared_length size) past_declared → Framed s way alternate f v at e o
  unfolding framed
  framed_by id p size start other q d body hi hz l ho hd m =
      let i = field_ok 4 number (bit s) at e o hi in
      let z = size-goes 4 0 0 (bit s) p e o hz in
      let a = alternate-goes alternate (bit s) start (start + declared_length size) past_declared ho in
      let j = field_ok 1 number (bit s) q (start + declared_length size) past_declared hd in
      let x : start + declared_length size ≡ end_at at size = omega arith in
      let y : body ≡ body_at at alternate size = omega arith in
      record {
        kind = kind id other;
        size = size;
        room = omega arith;
        fits = omega arith;
        inside = subst₂ (λ (body end : ℕ). Here s (λ l. way (next (next (next (next l))))) (f (kind id other) size) v body end past_declared) y x m;
        passed = ok_at (alike f m.meets.ran) (sym x);
        read = ok_at (alike (λ k size. give (record { kind = k; size = size })) (give_is _ (bit s) body (start + declared_length size) past_declared)) (sym x);
        known = ok_at (alike (λ k size. give k) (give_is _ (bit s) body (start + declared_length size) past_declared)) (sym x);
      }
    where
      -- what a reader of frames makes of it
      alike : {B : Type 0} (g : Kind → Size → P B) {w : B} {to : ℕ} → run (g (kind id other) size) (bit s) body (start + declared_length size) past_declared ≡ ok w to
          → run (framed alternate g) (bit s) at e o ≡ ok w (start + declared_length size)
      alike g hg =
          bind_is _ _ (bit s) at e o hi ∙ bind_is _ _ (bit s) p e o hz ∙ within_is _ _ _ (bit s) start e o l
          ∙ ap (λ (r : _). and_then r (λ a mid. ok a (start + declared_length size)))
          (bind_is _ _ (bit s) start (start + declared_length size) past_declared ho ∙ bind_is _ _ (bit s) q (start + declared_length size) past_declared hd ∙ hg)

  pub in_frame : Here s way (framed alternate f) v at e o → Framed s way alternate f v at e o
  unfolding framed
  in_frame m =
      let id = line m.meets in
      let size = line id.rest in
      let in-it = held size.rest in
      let other = line in-it.inside in
      let discard = line other.rest in
      framed_by id.gives id.mid size.gives size.mid other.gives other.mid discard.gives discard.mid
      id.here.ran size.here.ran in-it.fits other.here.ran discard.here.ran (here discard.rest)
