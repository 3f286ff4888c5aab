-- 5.5.1 variable_bits_max(4, 4): an element's size.
use Rattle.std.specs.Prelude.{ℕ, zero, suc, ◌+◌, ◌*◌, eqb}
use Rattle.bits.specs.declared.Size.{Size}
use Rattle.bits.specs.Language.{P, give, ◌>>=◌, bits, pick}

-- the value, and the groups that it took
abbrev pub size_of : ℕ → ℕ → Size
size_of value groups = record { value = value; groups = groups }

-- Behind g groups with the value so far, of which k more may be followed by another: a group of 4 bits is added, and a flag says whether one more
-- follows, for which the value is moved up by a group and 16 is added. The printed test stands before its own count is raised, so four groups
-- may be followed by another; the flag behind the fifth is read and ignored.
unfoldable pub size_from : ℕ → ℕ → ℕ → P Size
size_from zero value g = do
  read ← bits 4
  b-read-more ← bits 1
  give (size_of (value + read) (suc g))
size_from (suc k) value g = do
  read ← bits 4
  b-read-more ← bits 1
  pick (eqb b-read-more 0) (give (size_of (value + read) (suc g))) (size_from k ((value + read) * 16 + 16) (suc g))

abbrev pub variable_bits_max : P Size
variable_bits_max = size_from 4 0 0
