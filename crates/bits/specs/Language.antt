-- The language of the definitions: a reader of bits is a small tree of steps, and one interpreter, `run`, says what it answers.
use Rattle.std.specs.Prelude.{Bool, true, false, List, [], ◌∷◌, ℕ, zero, suc, ◌+◌, ◌-◌, ◌*◌, ◌/◌, ◌%◌, ◌^◌, length, get_or, leb}

-- what a reader answers: a value and the next position, or a refusal: its number, its place, and how many bits were missing
pub data Res (A : Type 0) : Type 0 where
  ok : A → ℕ → Res A
  no : ℕ → ℕ → ℕ → Res A

-- the first if the test holds, else the second
abbrev pub pick {ℓ} : {A : Type ℓ} → Bool → A → A → A
pick true a b = a
pick false a b = b

-- both tests hold
abbrev pub both : Bool → Bool → Bool
both true b = b
both false b = false

-- the widest field that is read or laid at once: what a word of four bytes holds behind up to 7 bits
abbrev pub widest_field : ℕ
widest_field = 24

-- a test as a flag
abbrev pub as_flag : Bool → ℕ
as_flag t = pick t 1 0

-- v is one of the numbers from low to high
abbrev pub between : ℕ → ℕ → ℕ → Bool
between low high v = both (leb low v) (leb v high)

-- a bit, 0 or 1, at each position
abbrev pub Bits : Type 0
Bits = ℕ → ℕ

-- the w bits from a position on
unfoldable pub slice : Bits → ℕ → ℕ → List ℕ
slice b at zero = []
slice b at (suc w) = b at ∷ slice b (suc at) w

-- The steps: give a value; refuse, with a number and how far back from here the place lies; read a field of so many bits and make a value of them;
-- hold a reader to an end so many bits from here, which must itself fit (else the place lies so far back), and go on behind that end; one step
-- after another. No step can learn its own position.
infixl 20 ◌>>=◌
pub data P : Type 0 → Type 1 where
  give : {A : Type 0} → A → P A
  refuse : {A : Type 0} → ℕ → ℕ → P A
  field : {A : Type 0} → ℕ → (List ℕ → A) → P A
  within : {A : Type 0} → ℕ → ℕ → P A → P A
  ◌>>=◌ : {A B : Type 0} → P A → (A → P B) → P B

-- go on with the value, or stay refused
abbrev pub and_then : {A B : Type 0} → Res A → (A → ℕ → Res B) → Res B
and_then (ok a at) k = k a at
and_then (no r pl m) k = no r pl m

-- the refusal of a field, or a declared end, that passes the payload's end, and of a field that passes the declared end that it is held to
abbrev pub past_payload : ℕ
past_payload = 2

abbrev pub past_declared : ℕ
past_declared = 8

-- what a reader answers on the bits b from the position at on; e is the end, o the refusal for passing it
unfoldable pub run : {A : Type 0} → P A → Bits → ℕ → ℕ → ℕ → Res A
run (give a) b at e o = ok a at
run (refuse r back) b at e o = no r (at - back) 0
run (field w f) b at e o = pick (leb (at + w) e) (ok (f (slice b at w)) (at + w)) (no o at (at + w - e))
run (within n back p) b at e o =
    pick (leb (at + n) e) (and_then (run p b at (at + n) past_declared) (λ a to. ok a (at + n))) (no o (at - back) (at + n - e))
run (p >>= k) b at e o = and_then (run p b at e o) (λ a to. run (k a) b to e o)

-- the number that a list of bits stands for, top bit first
unfoldable pub number : List ℕ → ℕ
number [] = 0
number (x ∷ xs) = x * 2 ^ length xs + number xs

-- a field of w bits, as a number
abbrev pub bits : ℕ → P ℕ
bits w = field w number

-- a reader that runs only if the test holds; else the value is d
abbrev pub when : {A : Type 0} → Bool → P A → A → P A
when on p d = pick on p (give d)

-- a field that is there only if the test holds; else it is 0
abbrev pub bits_if : Bool → ℕ → P ℕ
bits_if on w = when on (bits w) 0

-- a run of n bits that nothing looks at
abbrev pub skip : ℕ → P ℕ
skip n = field {A = ℕ} n (λ l. 0)

-- refusal r, back bits before this place, if the test holds; else the value v, with nothing read
abbrev pub refuse_if : {A : Type 0} → Bool → ℕ → ℕ → A → P A
refuse_if on r back v = pick on (refuse r back) (give v)

-- a field of w bits; refusal r at the field's own first bit, if the test holds of its value
abbrev pub bits_unless : ℕ → ℕ → (ℕ → Bool) → P ℕ
bits_unless r w test = bits w >>= λ v. refuse_if (test v) r w v

-- a reader for each entry of a list, one after the other
unfoldable pub each : {X A : Type 0} → (X → P A) → List X → P (List A)
each f [] = give []
each f (x ∷ xs) = do
  a ← f x
  rest ← each f xs
  give (a ∷ rest)

-- n numbers from i on
unfoldable pub from : ℕ → ℕ → List ℕ
from i zero = []
from i (suc n) = i ∷ from (suc i) n

-- for (i = 0; i < n; i++) f(i)
abbrev pub for : {A : Type 0} → ℕ → (ℕ → P A) → P (List A)
for n f = each f (from 0 n)

-- bit i of the bytes s, counted from the top bit of the first byte
unfoldable pub bit : List ℕ → Bits
bit s i = get_or s (i / 8) 0 / 2 ^ (7 - i % 8) % 2

-- index k of an array of n flags that was sent as the number v. Index 0 is sent first, so it is the top bit
abbrev pub flag : ℕ → ℕ → ℕ → ℕ
flag n k v = v / 2 ^ (n - 1 - k) % 2
