-- What the code's cursor stands for, and what a function that reads promises.
use Rattle.std.specs.Prelude.{◌≡◌, Bool, true, List, ℕ, ◌+◌, ◌-◌, ◌*◌, ◌/◌, ◌%◌, ◌^◌, ◌≤◌, ◌<◌, get_or, eqb, leb}
use Rattle.bits.specs.declared.Cur.{Cur}
use Rattle.bits.specs.declared.Limit.{Limit}
use Rattle.bits.specs.declared.Sighted.{Sighted}
use Rattle.bits.specs.Language.{Res, ok, no, pick, Bits, slice, number, P, run, past_payload, past_declared}

-- the four bytes from i as one number, the first the highest; past the end they are 0
abbrev pub word_at : List ℕ → ℕ → ℕ
word_at s i = ((get_or s i 0 * 256 + get_or s (i + 1) 0) * 256 + get_or s (i + 2) 0) * 256 + get_or s (i + 3) 0

-- the eight bytes from i
abbrev pub wide_at : List ℕ → ℕ → ℕ
wide_at s i = word_at s i * 4294967296 + word_at s (i + 4)

-- n bits of a number of 64 bits, o bits behind its first
abbrev pub looked : ℕ → ℕ → ℕ → ℕ
looked x o n = x * 2 ^ o % 2 ^ 64 / 2 ^ (64 - n)

-- x holds the 64 bits from base on
pub record Sees (x : ℕ) (b : Bits) (base : ℕ) : Type 0 where
  pub sight : (o n : ℕ) → o + n ≤ 64 → looked x o n ≡ number (slice b (base + o) n)

-- the refusal for passing a limit's end
abbrev pub over_of : Bool → ℕ
over_of inner = pick inner past_declared past_payload

-- go on from the cursor, if it has met no refusal
abbrev pub go_on : {A : Type 0} → Cur → (ℕ → Res A) → Res A
go_on c f = pick (eqb c.no 0) (f c.at.0) (no c.no c.at.0 c.missing)

-- what p answers from the cursor c
abbrev pub run_from : {A : Type 0} → P A → Bits → Cur → Limit → Res A
run_from p b c l = go_on c (λ at. run p b at l.end.0 (over_of l.inner))

-- from the cursor c the reader p gives the value v and the cursor d, or the refusal that d carries; while nothing is refused, the missing bits are
-- handed on as they came
pub record Reads {A : Type 0} (p : P A) (b : Bits) (c : Cur) (l : Limit) (v : A) (d : Cur) : Type 0 where
  pub same : go_on d (λ at. ok v at) ≡ run_from p b c l
  pub handed : d.no ≡ 0 → d.missing ≡ c.missing

-- the same for a number below n, refused or not, that the cursor holds
pub record Took (p : P ℕ) (n : ℕ) (b : Bits) (c : Cur) (l : Limit) (d : Cur) : Type 0 where
  pub reads : Reads p b c l d.v d
  pub small : d.v < n

-- the same for a value that stands beside the cursor, which itself holds 0
pub record Gave {A : Type 0} (p : P A) (b : Bits) (c : Cur) (l : Limit) (v : A) (d : Cur) : Type 0 where
  pub reads : Reads p b c l v d
  pub empty : d.v ≡ 0

-- the cursor with another value
abbrev pub valued : Cur → ℕ → Cur
valued c v = record { v = v; missing = c.missing; at = c.at; no = c.no }

-- the cursor before an element of n bits, or its refusal, back bits before it
unfoldable pub open_at : Limit → Cur → ℕ → ℕ → Cur
open_at l c n back =
    pick (eqb c.no 0)
    (pick (leb (c.at.0 + n) l.end.0) c
    (record { v = 0; missing = c.at.0 + n - l.end.0; at = record { 0 = c.at.0 - back }; no = over_of l.inner }))
    c

-- the element's own limit
unfoldable pub inner_of : Limit → Cur → ℕ → Limit
inner_of l c n =
    pick (leb (c.at.0 + n) l.end.0)
    (record { end = record { 0 = c.at.0 + n }; inner = true })
    (record { end = l.end; inner = true })

-- the cursor behind the element, where nothing in it was refused
unfoldable pub close_at : Cur → Limit → Cur
close_at e l = pick (eqb e.no 0) (record { v = 0; missing = e.missing; at = l.end; no = 0 }) e

-- from the position at the reader p gives the value v and comes to the position to, wherever behind it the end lies
pub record Freely {A : Type 0} (p : P A) (b : Bits) (at : ℕ) (v : A) (to : ℕ) : Type 0 where
  pub forward : at ≤ to
  pub same : (e o : ℕ) → to ≤ e → run p b at e o ≡ ok v to

-- of every 64 bits that x holds the reader p reads, from o bits behind the first on, the value v, and comes to the bit to of them
pub record Looks {A : Type 0} (p : P A) (x o : ℕ) (v : A) (to : ℕ) : Type 0 where
  pub free : (b : Bits) (base : ℕ) → Sees x b base → Freely p b (base + o) v (base + to)

-- a field that was looked at, of up to n bits
pub record Looked (p : P ℕ) (n x o : ℕ) (r : Sighted ℕ) : Type 0 where
  pub looks : Looks p x o r.value r.off
  pub small : r.value < 2 ^ n
  pub near : r.off ≤ o + n

-- the field of n bits, and none
abbrev pub sight_of : ℕ → ℕ → ℕ → Sighted ℕ
sight_of x o n = record { value = looked x o n; off = o + n }

abbrev pub no_sight : ℕ → Sighted ℕ
no_sight o = record { value = 0; off = o }
