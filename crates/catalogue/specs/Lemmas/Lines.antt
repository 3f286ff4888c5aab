-- The number of the line behind a text.
use Rattle.std.specs.Prelude.{◌≡◌, refl, Bool, true, false, List, [], ◌∷◌, ◌++◌, ℕ, suc, ◌+◌, ◌≤◌, eqb}
use Rattle.std.proofs.Common.{◌∙◌, arith, ne_eqb}
use Rattle.bits.specs.Language.{pick}
use Rattle.text.specs.Numerals.{decimal, Digits, Numeral}
use Rattle.text.specs.NumeralLaws.{decimal-numeral}
use Rattle.text.specs.Lines.{newline}
use Rattle.text.specs.Laying.{last_position, capped}
use Rattle.catalogue.specs.Scan.{next_line}

-- how many lines end in a text
unfoldable pub lines_in : List ℕ → ℕ
lines_in [] = 0
lines_in (c ∷ s) = pick (eqb c newline) (suc (lines_in s)) (lines_in s)

-- the number of the line behind a text that begins in line n
unfoldable pub behind : ℕ → List ℕ → ℕ
behind n [] = n
behind n (c ∷ s) = behind (pick (eqb c newline) (next_line n) n) s

pub behind-append : (n : ℕ) (s t : List ℕ) → behind n (s ++ t) ≡ behind (behind n s) t
unfolding behind
behind-append n [] t = refl
behind-append n (c ∷ s) t = behind-append (pick (eqb c newline) (next_line n) n) s t

pub behind_is : (n : ℕ) (s : List ℕ) → n ≤ last_position → behind n s ≡ capped (n + lines_in s)
unfolding behind lines_in
behind_is n [] h = omega arith
behind_is n (c ∷ s) h = go (eqb c newline) (behind_is (next_line n) s (omega arith)) (behind_is n s h)
  where
    go : (t : Bool) → behind (next_line n) s ≡ capped (next_line n + lines_in s) → behind n s ≡ capped (n + lines_in s)
        → behind (pick t (next_line n) n) s ≡ capped (n + pick t (suc (lines_in s)) (lines_in s))
    go true f g = f ∙ omega arith
    go false f g = g

-- ---- a text within a line

-- no line ends in it
abbrev pub InLine : List ℕ → Type 0
InLine s = (n : ℕ) → behind n s ≡ n

pub digits_in-line : (s : List ℕ) → Digits s → InLine s
unfolding behind
digits_in-line [] h n = refl
digits_in-line (c ∷ s) h n =
    let low = h.0.0 in
    rw (ne_eqb c newline (λ e. omega arith)) (digits_in-line s h.1 n)

pub numeral-digits : (s : List ℕ) → Numeral s → Digits s
numeral-digits [] h = absurd h
numeral-digits (c ∷ []) h = (h, tt)
numeral-digits (c ∷ d ∷ s) h = h.1

pub decimal_in-line : (v : ℕ) → InLine (decimal v)
decimal_in-line v = digits_in-line (decimal v) (numeral-digits (decimal v) (decimal-numeral v))
