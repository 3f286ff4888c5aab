-- The language in which the reading of a text is defined: a reader of lines is a small tree of steps, and one interpreter, `run`, says what it answers.
use Rattle.std.specs.Prelude.{Bool, List, [], ◌∷◌, ℕ, ◌+◌, ◌-◌, ◌*◌, eqb, leb}
use Rattle.std.proofs.Math.Option.{Option, none, some}
use Rattle.bits.specs.Language.{pick, between}
use Rattle.text.specs.Numerals.{digit}
use Rattle.text.specs.Lines.{newline}
use Rattle.text.specs.Laying.{capped}

-- what a reader answers: a value, the number of the line that comes next, and the text from there on; or the number of the line that cannot stand where it does
pub data Got (A : Type 0) : Type 0 where
  got : A → ℕ → List ℕ → Got A
  bad : ℕ → Got A

-- The steps: give a value; fail, at this line; take a word, which must stand here; see that a byte stands here, and take nothing; take a number of so little and so much;
-- take the end of a line; go one way behind a word, if it stands here, and else another way; go one way at the end of the text, and else another way; one step after another.
infixl 20 ◌>>=◌
pub data S : Type 0 → Type 1 where
  give : {A : Type 0} → A → S A
  fail : {A : Type 0} → S A
  word : List ℕ → S (Unit {0})
  peek : ℕ → S (Unit {0})
  number : ℕ → ℕ → S ℕ
  end_line : S (Unit {0})
  whether : {A : Type 0} → List ℕ → S A → S A → S A
  at_end : {A : Type 0} → S A → S A → S A
  ◌>>=◌ : {A B : Type 0} → S A → (A → S B) → S B

-- one step after another, whose value says nothing
infixl 20 ◌>>◌
abbrev pub ◌>>◌ : {A B : Type 0} → S A → S B → S B
p >> q = p >>= λ _. q

-- the text behind a word, if it begins with it
unfoldable pub after : List ℕ → List ℕ → Option (List ℕ)
after [] s = some s
after (c ∷ cs) [] = none
after (c ∷ cs) (x ∷ s) = pick (eqb x c) (after cs s) none

-- a decimal digit
abbrev pub is_digit : ℕ → Bool
is_digit c = between (digit 0) (digit 9) c

-- further digits of a number of which n stands before, as far as there are any; none if it passes the most
unfoldable pub digits : ℕ → ℕ → List ℕ → Option (ℕ × List ℕ)
digits most n [] = some (n, [])
digits most n (c ∷ s) =
    pick (is_digit c)
    (pick (leb (10 * n + (c - digit 0)) most) (digits most (10 * n + (c - digit 0)) s) none)
    (some (n, c ∷ s))

-- a number: one digit or more, of which the first is 0 only where it is the only one
unfoldable pub numeral : ℕ → List ℕ → Option (ℕ × List ℕ)
numeral most [] = none
numeral most (c ∷ s) = pick (is_digit c) (pick (eqb c (digit 0)) (some (0, s)) (digits most 0 (c ∷ s))) none

-- go on with the value, or stay bad
abbrev pub and_then : {A B : Type 0} → Got A → (A → ℕ → List ℕ → Got B) → Got B
and_then (got a n s) k = k a n s
and_then (bad n) k = bad n

abbrev pub took : ℕ → Option (List ℕ) → Got (Unit {0})
took n none = bad n
took n (some s) = got tt n s

abbrev pub valued : ℕ → ℕ → Option (ℕ × List ℕ) → Got ℕ
valued n least none = bad n
valued n least (some (v, s)) = pick (leb least v) (got v n s) (bad n)

abbrev pub seen : ℕ → ℕ → List ℕ → Got (Unit {0})
seen n c [] = bad n
seen n c (x ∷ s) = pick (eqb x c) (got tt n (x ∷ s)) (bad n)

-- the line behind a line; there is no line behind the last number that there is
abbrev pub next_line : ℕ → ℕ
next_line n = capped (n + 1)

abbrev pub ended : ℕ → List ℕ → Got (Unit {0})
ended n [] = bad n
ended n (x ∷ s) = pick (eqb x newline) (got tt (next_line n) s) (bad n)

abbrev pub ways : {A : Type 0} → Option (List ℕ) → (List ℕ → Got A) → Got A → Got A
ways none there here = here
ways (some s) there here = there s

abbrev pub ends : {A : Type 0} → List ℕ → Got A → Got A → Got A
ends [] end here = end
ends (x ∷ s) end here = here

-- what a reader answers on a text, whose first byte stands in line n
unfoldable pub run : {A : Type 0} → S A → ℕ → List ℕ → Got A
run (give a) n s = got a n s
run fail n s = bad n
run (word w) n s = took n (after w s)
run (peek c) n s = seen n c s
run (number least most) n s = valued n least (numeral most s)
run end_line n s = ended n s
run (whether w p q) n s = ways (after w s) (λ rest. run p n rest) (run q n s)
run (at_end p q) n s = ends s (run p n s) (run q n s)
run (p >>= k) n s = and_then (run p n s) (λ a m rest. run (k a) m rest)
