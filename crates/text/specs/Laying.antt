-- Bytes laid into a lent buffer: what a function that lays text promises.
use Rattle.std.specs.Prelude.{◌≡◌, List, ℕ, ◌+◌, ◌*◌, ◌≤◌, min, length}
use Rattle.std.proofs.lemmas.List.Edits.{sets}
use Rattle.oamd.specs.declared.ReadAnswer.{ReadAnswer}
use Rattle.oamd.specs.Tables.{most_blocks, record_stride}

-- the last position that there is, behind every buffer
abbrev pub last_position : ℕ
last_position = 18446744073709551615

-- a position, or the last that there is
abbrev pub capped : ℕ → ℕ
capped at = min at last_position

-- Laying l from the position at on turned the buffer s into t: each byte of l that falls into the buffer stands in its place, and every other byte of the
-- buffer is as it was. The next position is r
pub record Laid (s t : List ℕ) (at r : ℕ) (l : List ℕ) : Type 0 where
  pub same : t ≡ sets s at l
  pub next : r ≡ capped (at + length l)
  pub room : length s ≤ last_position

-- what the tables of an accepted payload are laid from: no more blocks than there can be, and all bytes of the records
pub record Holds (a : ReadAnswer) (records : List ℕ) : Type 0 where
  pub blocks : a.timing.blocks ≤ most_blocks
  pub bytes : record_stride * (a.programme.objects * a.timing.blocks) ≤ length records
