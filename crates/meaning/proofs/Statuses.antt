-- A value by its status, for values of every type. Assumes nothing.
use mathlib.Core.Path.{◌≡◌}
use mathlib.Core.Bool.{Bool}
use Rattle.oamd.specs.declared.Status.{Status}
use Rattle.oamd.specs.Meaning.{value_of}

module _ {A : Type 0} (s : Status) (sent : Bool) (default before value r : A) where
  -- by the code's own test and value
  pub by_number : (u : Bool) (found : A) → r ≡ value_of s u default before found → u ≡ sent → found ≡ value → r ≡ value_of s sent default before value
  by_number u found e q v = rw (← q, ← v) e
