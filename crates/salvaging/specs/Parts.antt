-- What the code has of a payload that is salvaged, and what its parts promise: the number of the elements that go, and an array that begins with them.
use Rattle.std.specs.Prelude.{◌≡◌, List, ◌++◌, ℕ, ◌+◌, ◌-◌, ◌*◌, ◌≤◌, length, take}
use Rattle.bits.specs.Language.{slice, bit}
use Rattle.oamd.specs.declared.Gone.{Gone}
use Rattle.oamd.specs.Tables.{most_bytes, most_elements}
use Rattle.demands.specs.Assembly.{count_bits}
use Rattle.reader.specs.declared.Sifted.{Sifted}
use Rattle.salvaging.specs.Salvage.{without}
use Rattle.salvaging.specs.Promises.{InOrder}

-- the elements that go
abbrev pub gone_by : Sifted → List Gone
gone_by d = take d.drops d.gone

-- the bits between them
abbrev pub runs_by : List ℕ → Sifted → List ℕ
runs_by s d = without (bit s) d.body.0 (gone_by d) (8 * length s)

-- what is left
unfoldable pub left_by : List ℕ → Sifted → List ℕ
left_by s d = slice (bit s) 0 d.head.0 ++ (count_bits (d.count - d.drops) ++ runs_by s d)

-- The header, the count and the elements stand one behind the other in a payload that is not too long.
pub record Fair (s : List ℕ) (d : Sifted) : Type 0 where
  pub short : length s ≤ most_bytes
  pub headed : d.head.0 ≤ d.body.0
  pub order : InOrder d.body.0 (gone_by d) (8 * length s)
  pub few : d.drops ≤ d.count
  pub most : d.count ≤ most_elements
  pub array : length d.gone ≡ most_elements

-- the bits of a payload, of an element count, and of what is left, at the most
abbrev pub most_bits : ℕ
most_bits = 8 * most_bytes

abbrev pub most_count : ℕ
most_count = 9

abbrev pub most_left : ℕ
most_left = most_bits + (most_count + most_bits)
