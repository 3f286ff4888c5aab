-- What an accepted reader has read, line by line, with a rule for each step.
use Rattle.std.specs.Prelude.{◌≡◌, refl, Bool, true, false, List, [], ◌∷◌, ℕ, zero, suc, ◌+◌, ◌^◌, ◌<◌}
use Rattle.std.proofs.Common.{ap₂, ◌∙◌, subst, true≢false, arith}
use Rattle.std.proofs.lemmas.Bool.{false≢true}
use Rattle.bits.specs.Language.{ok, pick, Bits, slice, number, P, give, ◌>>=◌, run, bits, bits_if, when, skip, refuse_if, bits_unless}
use Rattle.bits.specs.Steps.{no_ok, give_ok, bind_ok, field_ok, length-slice}
use Rattle.bits.specs.Lists.{binary-slice, number_lt}
use Rattle.sources.specs.Places.{arrival, arrival_next}
use Rattle.sources.specs.Offsets.{Lines, no_more, carry, ◌⊲◌, span, offset_at}

-- ---- lines that stand in bits

-- each field of the lines, from at on, has its number there
unfoldable pub Stand : Bits → ℕ → Lines → Type 0
Stand b at no_more = Unit {0}
Stand b at (carry on w v) = on ≡ true → number (slice b at w) ≡ v
Stand b at (l ⊲ m) = Stand b at l × Stand b (at + span l) m

-- the line at a path, itself lines
unfoldable pub line_at : List ℕ → Lines → Lines
line_at path no_more = no_more
line_at path (carry on w v) = carry on w v
line_at [] (l ⊲ m) = l ⊲ m
line_at (zero ∷ []) (l ⊲ m) = l
line_at (zero ∷ (n ∷ path)) (l ⊲ m) = line_at (n ∷ path) l
line_at (suc n ∷ path) (l ⊲ m) = line_at (n ∷ path) m

-- it stands behind its offset
pub stand_at : (b : Bits) (path : List ℕ) (l : Lines) (at : ℕ) → Stand b at l → Stand b (at + offset_at path l) (line_at path l)
unfolding Stand line_at offset_at
stand_at b path no_more at h = h
stand_at b path (carry on w v) at h = subst (λ (k : ℕ). Stand b k (carry on w v)) (let e : at ≡ at + 0 = omega arith in e) h
stand_at b [] (l ⊲ m) at h = subst (λ (k : ℕ). Stand b k (l ⊲ m)) (let e : at ≡ at + 0 = omega arith in e) h
stand_at b (zero ∷ []) (l ⊲ m) at h = subst (λ (k : ℕ). Stand b k l) (let e : at ≡ at + 0 = omega arith in e) h.0
stand_at b (zero ∷ (n ∷ path)) (l ⊲ m) at h = stand_at b (n ∷ path) l at h.0
stand_at b (suc n ∷ path) (l ⊲ m) at h =
    subst (λ (k : ℕ). Stand b k (line_at (n ∷ path) m)) (let e : at + span l + offset_at (n ∷ path) m ≡ at + (span l + offset_at (n ∷ path) m) = omega arith in e)
    (stand_at b (n ∷ path) m (at + span l) h.1)

-- ---- no width depends on a number

unfoldable pub bare : Lines → Lines
bare no_more = no_more
bare (carry on w v) = carry on w 0
bare (l ⊲ m) = bare l ⊲ bare m

span-bare : (l : Lines) → span (bare l) ≡ span l
unfolding span bare
span-bare no_more = refl
span-bare (carry on w v) = refl
span-bare (l ⊲ m) = ap₂ (λ (x y : ℕ). x + y) (span-bare l) (span-bare m)

pub offset-bare : (path : List ℕ) (l : Lines) → offset_at path (bare l) ≡ offset_at path l
unfolding offset_at bare
offset-bare path no_more = refl
offset-bare path (carry on w v) = refl
offset-bare [] (l ⊲ m) = refl
offset-bare (zero ∷ []) (l ⊲ m) = refl
offset-bare (zero ∷ (n ∷ path)) (l ⊲ m) = offset-bare (n ∷ path) l
offset-bare (suc n ∷ path) (l ⊲ m) = ap₂ (λ (x y : ℕ). x + y) (span-bare l) (offset-bare (n ∷ path) m)

-- ---- what was read

-- p, which came from at to to, has read the lines l
pub record Laid {A : Type 0} (p : P A) (b : Bits) (at e o to : ℕ) (l : Lines) : Type 0 where
  pub ends : to ≡ at + span l
  pub comes : (path : List ℕ) → arrival path p b at e o ≡ at + offset_at path l
  pub stands : Stand b at l

-- whatever p accepts, it has read lines of which, and of its value, Q holds
unfoldable pub Lays : {A : Type 0} → P A → (Lines → A → Type 0) → Type 0
Lays {A} p Q = (b : Bits) → ((i : ℕ) → b i < 2) → (at e o : ℕ) (v : A) (to : ℕ) → run p b at e o ≡ ok v to → (l : Lines) × Laid p b at e o to l × Q l v

-- ---- a rule for each step

-- lines that are not there
pub record Absent (l : Lines) : Type 0 where
  pub takes : span l ≡ 0
  pub before : (path : List ℕ) → offset_at path l ≡ 0
  pub stands : (b : Bits) (at : ℕ) → Stand b at l

no_lines : Absent no_more
unfolding Stand span offset_at
no_lines = record { takes = refl; before = λ path. refl; stands = λ b at. tt }

pub no_field : (w v : ℕ) → Absent (carry false w v)
unfolding Stand span offset_at
no_field w v = record { takes = refl; before = λ path. refl; stands = λ b at q. absurd (false≢true q) }

pub no-clause : (l : Lines) → Absent l → Absent (l ⊲ no_more)
unfolding Stand span offset_at
no-clause l h = let t = h.takes in record { takes = omega arith; before = go; stands = λ b at. (h.stands b at, tt) }
  where
    go : (path : List ℕ) → offset_at path (l ⊲ no_more) ≡ 0
    go [] = refl
    go (zero ∷ []) = refl
    go (zero ∷ (n ∷ path)) = h.before (n ∷ path)
    go (suc n ∷ path) = let t = h.takes in omega arith

pub absent : {A : Type 0} (a : A) (l : Lines) (Q : Lines → A → Type 0) → Absent l → Q l a → Lays (give a) Q
unfolding Lays arrival
absent a l Q z h b bin at e o v to r =
    let g = give_ok a b at e o r in
    let t = z.takes in
    (l, record { ends = omega arith; comes = λ path. (let i = z.before path in omega arith); stands = z.stands b at }, subst (Q l) g.0 h)

pub l-give : {A : Type 0} (a : A) (Q : Lines → A → Type 0) → Q no_more a → Lays (give a) Q
l-give a Q h = absent a no_more Q no_lines h

pub l-bits : (w : ℕ) (Q : Lines → ℕ → Type 0) → ((v : ℕ) → v < 2 ^ w → Q (carry true w v) v) → Lays (bits w) Q
unfolding Lays Stand span offset_at arrival
l-bits w Q h b bin at e o v to r =
    let g = field_ok w number b at e o r in (
      carry true w v,
      record { ends = g.2; comes = λ path. omega arith; stands = λ q. g.1 },
      h v (rw (length-slice b at w, g.1) at (number_lt (slice b at w) (binary-slice b at w bin))),
    )

-- bits that nothing looks at
pub l-skip : (n : ℕ) (Q : Lines → ℕ → Type 0) → ((x : ℕ) → Q (carry true n x) 0) → Lays (skip n) Q
unfolding Lays Stand span offset_at arrival
l-skip n Q h b bin at e o v to r =
    let g = field_ok n _ b at e o r in
    let x = number (slice b at n) in
    (carry true n x, record { ends = g.2; comes = λ path. omega arith; stands = λ q. refl }, subst (Q (carry true n x)) g.1 (h x))

-- a field that is there only if the test holds; else it is 0
pub l_if : (t : Bool) (w : ℕ) (Q : Lines → ℕ → Type 0) → ((v : ℕ) → (t ≡ true → v < 2 ^ w) → (t ≡ false → 0 ≡ v) → Q (carry t w v) v) → Lays (bits_if t w) Q
l_if true w Q h = l-bits w Q (λ v l. h v (λ q. l) (λ q. absurd (true≢false q)))
l_if false w Q h = absent 0 (carry false w 0) Q (no_field w 0) (h 0 (λ q. absurd (false≢true q)) (λ q. refl))

bind-comes : {A B : Type 0} (p : P A) (k : A → P B) (b : Bits) (at e o : ℕ) {a : A} {mid : ℕ} (l m : Lines) → run p b at e o ≡ ok a mid → mid ≡ at + span l
    → ((path : List ℕ) → arrival path p b at e o ≡ at + offset_at path l) → ((path : List ℕ) → arrival path (k a) b mid e o ≡ mid + offset_at path m)
    → (path : List ℕ) → arrival path (p >>= k) b at e o ≡ at + offset_at path (l ⊲ m)
unfolding arrival offset_at
bind-comes p k b at e o l m h q f g [] = omega arith
bind-comes p k b at e o l m h q f g (zero ∷ []) = omega arith
bind-comes p k b at e o l m h q f g (zero ∷ (n ∷ path)) = f (n ∷ path)
bind-comes p k b at e o l m h q f g (suc n ∷ path) = arrival_next n path p k b at e o h ∙ g (n ∷ path) ∙ omega arith

pub l-bind : {A B : Type 0} (p : P A) (k : A → P B) (Q : Lines → B → Type 0) → Lays p (λ l a. Lays (k a) (λ m v. Q (l ⊲ m) v)) → Lays (p >>= k) Q
unfolding Lays Stand span
l-bind p k Q h b bin at e o v to r =
    bind_ok p k b at e o r λ a mid hp hk.
    let x = h b bin at e o a mid hp in
    let y = x.2 b bin mid e o v to hk in
    let i = x.1.ends in
    let j = y.1.ends in (
      x.0 ⊲ y.0,
      record {
        ends = omega arith;
        comes = bind-comes p k b at e o x.0 y.0 hp i x.1.comes y.1.comes;
        stands = (x.1.stands, subst (λ (n : ℕ). Stand b n y.0) i y.1.stands);
      },
      y.2,
    )

-- a value that was not refused
l-pass : {A : Type 0} (t : Bool) (r back : ℕ) (v : A) (Q : Lines → A → Type 0) → Q no_more v → Lays (refuse_if t r back v) Q
unfolding Lays run
l-pass true r back v Q h = λ b bin at e o u to x. absurd (no_ok x)
l-pass false r back v Q h = l-give v Q h

-- a field that is there only if the test holds, and whose value was not refused
pub l-unless : (on : Bool) (r w : ℕ) (test : ℕ → Bool) (Q : Lines → ℕ → Type 0)
    → ((v : ℕ) → (on ≡ true → v < 2 ^ w) → (on ≡ false → 0 ≡ v) → Q (carry on w v ⊲ no_more) v) → Lays (when on (bits_unless r w test) 0) Q
l-unless true r w test Q h = l-bind _ _ Q (l-bits w _ λ v l. l-pass (test v) r w v _ (h v (λ q. l) (λ q. absurd (true≢false q))))
l-unless false r w test Q h = absent 0 (carry false w 0 ⊲ no_more) Q (no-clause _ (no_field w 0)) (h 0 (λ q. absurd (false≢true q)) (λ q. refl))

pub l-pick : {A : Type 0} (t : Bool) (p q : P A) (Q : Lines → A → Type 0) → (t ≡ true → Lays p Q) → (t ≡ false → Lays q Q) → Lays (pick t p q) Q
l-pick true p q Q f g = f refl
l-pick false p q Q f g = g refl
