-- Bytes stored into a buffer, and a record out of its bytes; the bytes of a record are `record_bytes_of` (oamd/specs/Record.antt). Laws.antt has that one undoes the other.
use Rattle.std.specs.Prelude.{Bool, true, false, List, [], ◌∷◌, ℕ, zero, suc, ◌+◌, eqb, set, get_or}
use Rattle.bits.specs.Language.{both}
use Rattle.oamd.specs.declared.Scene.{Scene}
use Rattle.oamd.specs.declared.Divergence.{Divergence}
use Rattle.oamd.specs.declared.Precise.{Precise}
use Rattle.oamd.specs.Tables.{record_bytes, time_bytes, record_stride}
use Rattle.oamd.specs.Record.{Record, record_of}

-- ---- into bytes

-- the bytes of a record at which the divergence and the precise position begin
abbrev pub divergence_byte : ℕ
divergence_byte = 17

abbrev pub precise_byte : ℕ
precise_byte = 20

-- xs in place of what stands from k bytes behind at on
abbrev pub set_from : ℕ → ℕ → List ℕ → List ℕ → List ℕ
set_from at k [] s = s
set_from at k (x ∷ xs) s = set_from at (k + 1) xs (set s (at + k) x)

-- ---- out of bytes

-- n bytes, from a byte on
unfoldable pub bytes_at : List ℕ → ℕ → ℕ → List ℕ
bytes_at s zero at = []
bytes_at s (suc n) at = get_or s at 0 ∷ bytes_at s n (at + 1)

-- bytes 0 to 16 of the record that begins at a byte
unfoldable pub scene_at : List ℕ → ℕ → Scene
scene_at s at = record {
  active = get_or s at 0;
  class = get_or s (at + 1) 0;
  gain = get_or s (at + 2) 0;
  priority = get_or s (at + 3) 0;
  location = record { x = get_or s (at + 4) 0; y = get_or s (at + 5) 0; z = get_or s (at + 6) 0; distance = get_or s (at + 7) 0 };
  volume = record { width = get_or s (at + 8) 0; depth = get_or s (at + 9) 0; height = get_or s (at + 10) 0 };
  zone = record { index = get_or s (at + 11) 0; elevation = get_or s (at + 12) 0 };
  screen = record { used = get_or s (at + 13) 0; factor = get_or s (at + 14) 0; depth = get_or s (at + 15) 0 };
  snap = get_or s (at + 16) 0;
}

-- bytes 17 to 19
unfoldable pub divergence_at : List ℕ → ℕ → Divergence
divergence_at s at = record { used = get_or s (at + 17) 0; mode = get_or s (at + 18) 0; value = get_or s (at + 19) 0 }

-- bytes 20 to 23
unfoldable pub precise_at : List ℕ → ℕ → Precise
precise_at s at = record { presence = get_or s (at + 20) 0; x = get_or s (at + 21) 0; y = get_or s (at + 22) 0; z = get_or s (at + 23) 0 }

abbrev pub record_at : List ℕ → ℕ → Record
record_at s at = record_of (scene_at s at) (divergence_at s at) (precise_at s at)

-- bytes 24 to 31
abbrev pub time_at : List ℕ → ℕ → List ℕ
time_at s at = bytes_at s time_bytes (at + record_bytes)

-- whether two lists are the same bytes
abbrev pub same_bytes : List ℕ → List ℕ → Bool
same_bytes [] [] = true
same_bytes [] (y ∷ ys) = false
same_bytes (x ∷ xs) [] = false
same_bytes (x ∷ xs) (y ∷ ys) = both (eqb x y) (same_bytes xs ys)

-- n records, the first of which begins at a byte
unfoldable pub records_at : List ℕ → ℕ → ℕ → List Record
records_at s zero at = []
records_at s (suc n) at = record_at s at ∷ records_at s n (at + record_stride)

-- the bytes of their times
unfoldable pub times_at : List ℕ → ℕ → ℕ → List (List ℕ)
times_at s zero at = []
times_at s (suc n) at = time_at s at ∷ times_at s n (at + record_stride)
