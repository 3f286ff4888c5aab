-- Bits laid into a lent buffer by a pen: what a function that lays fields promises.
use Rattle.std.specs.Prelude.{◌≡◌, ℕ, ◌+◌, ◌-◌, ◌*◌, ◌/◌, ◌%◌, ◌^◌, ◌<◌, ◌≤◌, Bool, List, ◌++◌, length, drop, nat_le, slice_index, slice_set}
use Rattle.bits.specs.Language.{bit, number, pick}
use Rattle.bits.specs.Writes.{to_bits, Binary}
use Rattle.laying.specs.declared.Pen.{Pen}

-- the largest place that a part may end at: a place fits 32 bits, with a field to spare
abbrev pub most_position : ℕ
most_position = 4294967264

-- the widest field that is laid at once: with seven bits before it, it stands in eight bytes
abbrev pub widest_put : ℕ
widest_put = 56

-- every entry is a byte
abbrev pub Bytes : List ℕ → Type 0
Bytes s = (i : ℕ) → slice_index s i < 256

-- where a pen stands, in bits from the buffer's first one on
abbrev pub place : Pen → ℕ
place p = 8 * p.stored.0 + p.held.0

-- whether eight bytes have room behind those that are stored
abbrev pub roomy : List ℕ → Pen → Bool
roomy s p = nat_le (p.stored.0 + 8) (length s)

-- the same place; and a place that no part may end at where eight bytes have room and more than seven bits are held, as no pen has it
unfoldable pub reach : List ℕ → Pen → ℕ
reach s p = place p + pick (roomy s p) (4294967296 * (p.held.0 - 7)) 0

-- a pen that has laid nothing
abbrev pub blank : Pen
blank = record { word = 0; held = record { 0 = 0 }; stored = record { 0 = 0 } }

-- the bits b, and no others, were laid into a buffer from its first bit on: in the stored bytes stand the first of them, and the others are held, as the first bits of a number of 64
-- bits with zeros behind them
pub record Holds (s : List ℕ) (p : Pen) (b : List ℕ) : Type 0 where
  pub bytes : Bytes s
  pub long : length b ≡ place p
  pub binary : Binary b
  pub stands : (i : ℕ) → i < 8 * p.stored.0 → bit s i ≡ slice_index b i
  pub rest : p.word ≡ number (drop (8 * p.stored.0) b) * 2 ^ (64 - p.held.0)

-- laying l, k bits at the most, turned the buffer s into t and the pen p into r: where they end within the buffer, it holds them behind what it held before
pub record Laid (k : ℕ) (s t : List ℕ) (p r : Pen) (l : List ℕ) : Type 0 where
  pub kept : length t ≡ length s
  pub next : place r ≡ place p + length l
  pub most : reach t r ≤ reach s p + k
  pub holds : place r ≤ 8 * length s → (b : List ℕ) → Holds s p b → Holds t r (b ++ l)

-- ---- a field laid by whole bytes

-- the eight bytes from i on replaced by those of y, as far as the buffer goes
abbrev pub set_low : List ℕ → ℕ → ℕ → List ℕ
set_low s i y = slice_set (slice_set (slice_set (slice_set s (i + 4) (y / 16777216 % 256)) (i + 5) (y / 65536 % 256)) (i + 6) (y / 256 % 256)) (i + 7) (y % 256)

abbrev pub set_high : List ℕ → ℕ → ℕ → List ℕ
set_high s i y =
    slice_set (slice_set (slice_set (slice_set s i (y / 72057594037927936)) (i + 1) (y / 281474976710656 % 256)) (i + 2) (y / 1099511627776 % 256)) (i + 3) (y / 4294967296 % 256)

abbrev pub set_wide : List ℕ → ℕ → ℕ → List ℕ
set_wide s i y = set_low (set_high s i y) i y

-- open bits and behind them v, n bits together, and zeros, 64 bits in all
unfoldable pub joined : ℕ → ℕ → ℕ → ℕ
joined word n v = (word + v * 2 ^ (64 - n)) % 2 ^ 64

-- the bits of y that fill a byte are stored for good
abbrev pub advanced : Pen → ℕ → ℕ → Pen
advanced p n y = record { word = y * 2 ^ (n / 8 * 8) % 2 ^ 64; held = record { 0 = n % 8 }; stored = record { 0 = p.stored.0 + n / 8 } }

-- n bits are held, those of v the last; of more than 63 none is looked at
abbrev pub longer : Pen → ℕ → ℕ → Pen
longer p n v = record { word = pick (nat_le n 63) (joined p.word n v) p.word; held = record { 0 = n }; stored = p.stored }

-- a field of w bits, which hold all of v, was put: which bytes and which pen there are now, and that the field is laid
pub record Put (w : ℕ) (s t : List ℕ) (p r : Pen) (v : ℕ) : Type 0 where
  pub same : t ≡ pick (roomy s p) (set_wide s p.stored.0 (joined p.word (p.held.0 + w) v)) s
  pub pen : r ≡ pick (roomy s p) (advanced p (p.held.0 + w) (joined p.word (p.held.0 + w) v)) (longer p (p.held.0 + w) v)
  pub laid : Laid w s t p r (to_bits w v)
