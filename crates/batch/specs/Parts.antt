-- What the parts of a batch promise.
use Rattle.std.specs.Prelude.{◌≡◌, List, ◌++◌, ℕ, ◌*◌, ◌≤◌, length}
use Rattle.oamd.specs.Tables.{answer_bytes}
use Rattle.oamd.specs.Record.{onto}
use Rattle.oamd.specs.Batch.{each_bytes}

-- ---- an answer's bytes

-- whatever n bytes stood in front: the bytes of each entry of a list stand behind them
abbrev pub Stands : {A : Type 0} → (A → List ℕ) → ℕ → List A → List ℕ → List ℕ → Type 0
Stands f n xs s t = (front room : List ℕ) → length front ≡ n → length room ≡ answer_bytes → s ≡ onto front room → t ≡ onto (front ++ each_bytes f xs) room

-- so do those of an array, which has so many entries
pub record StoredEach {A : Type 0} (f : A → List ℕ) (n many : ℕ) (xs : List A) (s t : List ℕ) : Type 0 where
  pub long : length xs ≡ many
  pub stands : Stands f n xs s t

-- ---- the shelf

-- room for n entries: a length and a frame for each, the slots, and the places
pub record Roomy (starts lengths frames recordslot trimslot : ℕ) (records trims answers : List ℕ) : Type 0 where
  pub lists : lengths ≡ starts
  pub numbered : frames ≡ starts
  pub record-slots : starts * recordslot ≤ length records
  pub trim-slots : starts * trimslot ≤ length trims
  pub places : starts * answer_bytes ≤ length answers
