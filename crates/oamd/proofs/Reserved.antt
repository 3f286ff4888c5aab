-- The list of the fields with reserved values has all of them, and of each the reserved values are some of those that its bits can hold. Assumes nothing.
use mathlib.Core.Path.{◌≡◌, refl}
use mathlib.Core.Bool.{Bool, true}
use mathlib.Core.Logic.{◌⊎◌, inl, inr}
use mathlib.Core.List.{List, [], ◌∷◌}
use Prim.Native.Nat.{◌^◌}
use lib.Dec.{T, leb, ltb}
use Rattle.bits.specs.Language.{both}
use Rattle.oamd.specs.Reserved.{Field, IntermediateSpatialFormatIdx, SampleOffsetCode, ZoneConstraintsIdx, ObjectSizeIdx, WarpMode, GlobalTrimMode, TrimSurround, TrimHeight}
use Rattle.oamd.specs.Reserved.{ObjectDivMode, ObjectDivCode, width_of, first_reserved, last_reserved, decoded}

abbrev pub Among : Field → List Field → Type 0
Among f [] = ⊥
Among f (g ∷ gs) = (f ≡ g) ⊎ Among f gs

pub all-decoded : (f : Field) → Among f decoded
all-decoded IntermediateSpatialFormatIdx = inl refl
all-decoded SampleOffsetCode = inr (inl refl)
all-decoded ZoneConstraintsIdx = inr (inr (inl refl))
all-decoded ObjectSizeIdx = inr (inr (inr (inl refl)))
all-decoded WarpMode = inr (inr (inr (inr (inl refl))))
all-decoded GlobalTrimMode = inr (inr (inr (inr (inr (inl refl)))))
all-decoded TrimSurround = inr (inr (inr (inr (inr (inr (inl refl))))))
all-decoded TrimHeight = inr (inr (inr (inr (inr (inr (inr (inl refl)))))))
all-decoded ObjectDivMode = inr (inr (inr (inr (inr (inr (inr (inr (inl refl))))))))
all-decoded ObjectDivCode = inr (inr (inr (inr (inr (inr (inr (inr (inr (inl refl)))))))))

abbrev pub held : List Field → Bool
held [] = true
held (f ∷ fs) = both (both (leb (first_reserved f) (last_reserved f)) (ltb (last_reserved f) (2 ^ width_of f))) (held fs)

pub all_held : T (held decoded)
all_held = tt
