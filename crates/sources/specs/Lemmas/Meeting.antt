-- Where reading a payload comes to a reader along a path of lines, and what that reader gives there: line by line, into elements and into loops.
use Rattle.std.specs.Prelude.{◌≡◌, List, [], ◌∷◌, ◌++◌, ℕ, zero, suc, ◌+◌, ◌≤◌, ◌<◌, length, get_or}
use Rattle.std.proofs.Common.{sym, ◌∙◌, arith}
use Rattle.bits.specs.Language.{ok, P, within, ◌>>=◌, run, bit, each, past_declared}
use Rattle.bits.specs.Steps.{bind_ok, give_ok, within_ok}
use Rattle.sources.specs.Places.{arrival, entry, arrival_next, arrival-into, arrival-within}
use Rattle.sources.specs.Where.{bit_of}

-- Along the paths that way makes of those inside p, reading the payload s comes to p at the position at, held to the end e with the refusal o for passing it; there p gives v, and goes
-- on at to.
pub record Meets {A : Type 0} (s : List ℕ) (way : List ℕ → List ℕ) (p : P A) (v : A) (at e o to : ℕ) : Type 0 where
  pub ran : run p (bit s) at e o ≡ ok v to
  pub comes : (n : ℕ) (path : List ℕ) → bit_of s (way (n ∷ path)) ≡ arrival (n ∷ path) p (bit s) at e o

-- somewhere
pub record Met {A : Type 0} (s : List ℕ) (way : List ℕ → List ℕ) (p : P A) (v : A) : Type 0 where
  pub at : ℕ
  pub end : ℕ
  pub past : ℕ
  pub to : ℕ
  pub meets : Meets s way p v at end past to

pub met : {A : Type 0} {s : List ℕ} {way : List ℕ → List ℕ} {p : P A} {v : A} {at e o to : ℕ} → Meets s way p v at e o to → Met s way p v
met {at = at} {e} {o} {to} m = record { at = at; end = e; past = o; to = to; meets = m }

-- the path of a line, from that of the line before on
abbrev pub next : List ℕ → List ℕ
next [] = []
next (n ∷ path) = suc n ∷ path

-- ---- a line, and what stands behind it

pub record Line {A B : Type 0} (s : List ℕ) (way : List ℕ → List ℕ) (p : P A) (k : A → P B) (v : B) (at e o to : ℕ) : Type 0 where
  pub gives : A
  pub mid : ℕ
  pub here : Meets s (λ l. way (0 ∷ l)) p gives at e o mid
  pub rest : Meets s (λ l. way (next l)) (k gives) v mid e o to

pub line : {A B : Type 0} {s : List ℕ} {way : List ℕ → List ℕ} {p : P A} {k : A → P B} {v : B} {at e o to : ℕ} → Meets s way (p >>= k) v at e o to
    → Line s way p k v at e o to
line {s = s} {p = p} {k = k} {at = at} {e} {o} m = bind_ok p k (bit s) at e o m.ran λ a mid h g. record {
  gives = a;
  mid = mid;
  here = record { ran = h; comes = λ n path. m.comes 0 (n ∷ path) ∙ arrival-into n path p k (bit s) at e o };
  rest = record { ran = g; comes = λ n path. m.comes (suc n) path ∙ arrival_next n path p k (bit s) at e o h };
}

-- ---- inside a declared end

pub record Held {A : Type 0} (s : List ℕ) (way : List ℕ → List ℕ) (n : ℕ) (p : P A) (v : A) (at e to : ℕ) : Type 0 where
  pub mid : ℕ
  pub fits : at + n ≤ e
  pub ends : to ≡ at + n
  pub inside : Meets s way p v at (at + n) past_declared mid

pub held : {A : Type 0} {s : List ℕ} {way : List ℕ → List ℕ} {n back : ℕ} {p : P A} {v : A} {at e o to : ℕ} → Meets s way (within n back p) v at e o to
    → Held s way n p v at e to
held {s = s} {n = n} {back} {p} {at = at} {e} {o} m = within_ok n back p (bit s) at e o m.ran λ mid l h ends. record {
  mid = mid;
  fits = l;
  ends = ends;
  inside = record { ran = h; comes = λ i path. m.comes i path ∙ arrival-within (i ∷ path) n back p (bit s) at e o };
}

-- ---- an entry of a loop

record Loop {X A : Type 0} (s : List ℕ) (way : List ℕ → List ℕ) (f : X → P A) (x : X) (xs : List X) (vs : List A) (at e o : ℕ) : Type 0 where
  gives : A
  others : List A
  mid : ℕ
  to : ℕ
  here : Meets s (λ l. way (0 ∷ l)) (f x) gives at e o mid
  rest : Meets s (λ l. way (1 ∷ l)) (each f xs) others mid e o to
  is : vs ≡ gives ∷ others

loop : {X A : Type 0} {s : List ℕ} {way : List ℕ → List ℕ} (f : X → P A) (x : X) (xs : List X) {vs : List A} {at e o to : ℕ}
    → Meets s way (each f (x ∷ xs)) vs at e o to → Loop s way f x xs vs at e o
unfolding each
loop {s = s} f x xs {e = e} {o} m =
    let first = line m in
    let second = line first.rest in
    record {
      gives = first.gives;
      others = second.gives;
      mid = first.mid;
      to = second.mid;
      here = first.here;
      rest = second.here;
      is = sym (give_ok _ (bit s) second.mid e o second.rest.ran).0;
    }

pub at_entry : {X A : Type 0} {s : List ℕ} {way : List ℕ → List ℕ} (f : X → P A) (xs : List X) {vs : List A} {at e o to : ℕ}
    → Meets s way (each f xs) vs at e o to → (k : ℕ) → k < length xs → (x : X) (none : A) → Met s (λ l. way (entry k ++ l)) (f (get_or xs k x)) (get_or vs k none)
at_entry f [] m k l x none = absurd (omega arith)
at_entry f (y ∷ ys) m zero l x none = let t = loop f y ys m in rw t.is (met t.here)
at_entry {way = way} f (y ∷ ys) m (suc k) l x none = let t = loop f y ys m in rw t.is (at_entry {way = λ l. way (1 ∷ l)} f ys t.rest k (omega arith) x none)
