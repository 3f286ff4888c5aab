-- Lines: a key, values parted by commas, and the line's end.
use Rattle.std.specs.Prelude.{List, [], ◌∷◌, ◌++◌, ℕ}
use Prim.Native.Char.{code}
use Rattle.bits.specs.Language.{from}
use Rattle.text.specs.Numerals.{decimal, hex_byte}

-- the texts of the entries of a list, one after the other
unfoldable pub texts : {A : Type 0} → (A → List ℕ) → List A → List ℕ
texts f [] = []
texts f (x ∷ xs) = f x ++ texts f xs

-- for (i = 0; i < n; i++) f(i)
abbrev pub texts_for : ℕ → (ℕ → List ℕ) → List ℕ
texts_for n f = texts f (from 0 n)

-- bytes as hex digits, two for each
abbrev pub hex : List ℕ → List ℕ
hex bytes = texts hex_byte bytes

abbrev pub comma : ℕ
comma = code ","

abbrev pub newline : ℕ
newline = code "\n"

-- values parted by commas
abbrev pub parted : List (List ℕ) → List ℕ
parted [] = []
parted (value ∷ []) = value
parted (value ∷ next ∷ values) = value ++ (comma ∷ parted (next ∷ values))

unfoldable pub line : List ℕ → List (List ℕ) → List ℕ
line key values = key ++ (parted values ++ (newline ∷ []))

-- a line of one number
abbrev pub number_line : List ℕ → ℕ → List ℕ
number_line key n = line key (decimal n ∷ [])
