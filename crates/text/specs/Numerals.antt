-- Numbers as digits, and bytes as hex digits.
use Rattle.std.specs.Prelude.{true, false, List, [], ◌∷◌, ◌++◌, ℕ, zero, suc, ◌+◌, ◌-◌, ◌*◌, ◌/◌, ◌%◌, ◌≤◌, ltb, get_or}
use Prim.Native.Char.{code}
use Rattle.keys.specs.Names.{ascii}

-- the decimal digit of a number below 10
abbrev pub digit : ℕ → ℕ
digit d = code "0" + d

-- the digits of n, the first of which stands for most: a number below 10 has one, any other those of n / 10 and behind them that of n % 10; the steps are
-- counted down
abbrev pub digits_in : ℕ → ℕ → List ℕ
digits_in zero n = digit (n % 10) ∷ []
digits_in (suc steps) n = elim (ltb n 10) [ true ↦ digit n ∷ [] | false ↦ digits_in steps (n / 10) ++ (digit (n % 10) ∷ []) ]

-- n steps are enough for n
unfoldable pub decimal : ℕ → List ℕ
decimal n = digits_in n n

-- ---- what makes them the digits of n: NumeralLaws says so

-- digits of decimal, and nothing else
abbrev pub Digit : ℕ → Type 0
Digit c = (digit 0 ≤ c) × (c ≤ digit 9)

abbrev pub Digits : List ℕ → Type 0
Digits [] = Unit {0}
Digits (c ∷ cs) = Digit c × Digits cs

-- one digit; or more, of which the first is not 0
abbrev pub Numeral : List ℕ → Type 0
Numeral [] = ⊥
Numeral (c ∷ []) = Digit c
Numeral (c ∷ d ∷ cs) = (digit 1 ≤ c) × Digits (c ∷ d ∷ cs)

-- the number that digits stand for, from the left, with what stands before them
abbrev pub worth_from : ℕ → List ℕ → ℕ
worth_from n [] = n
worth_from n (c ∷ cs) = worth_from (10 * n + (c - digit 0)) cs

abbrev pub worth : List ℕ → ℕ
worth cs = worth_from 0 cs

-- ---- hex digits

-- the hex digit of a number below 16
abbrev pub hex_digit : ℕ → ℕ
hex_digit d = get_or (ascii "0123456789abcdef") d 0

-- a byte as two hex digits
abbrev pub hex_byte : ℕ → List ℕ
hex_byte b = hex_digit (b / 16) ∷ hex_digit (b % 16) ∷ []
