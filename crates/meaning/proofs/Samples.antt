-- A count of samples is its number. Assumes nothing.
use mathlib.Core.Path.{◌≡◌, ap}
use Prim.Native.Nat.{ℕ}
use Rattle.units.specs.declared.SampleCount.{SampleCount}
use Rattle.oamd.specs.Timing.{samples}

pub counted : (s : SampleCount) (n : ℕ) → s.0 ≡ n → s ≡ samples n
counted s n e = ap samples e
