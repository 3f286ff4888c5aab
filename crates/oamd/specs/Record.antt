-- A record, and the bytes of it that the payload gives.
use Rattle.std.specs.Prelude.{Bool, List, [], ◌∷◌, ◌++◌, ℕ, length, drop, eqb}
use Rattle.bits.specs.Language.{both}
use Rattle.oamd.specs.declared.Scene.{Scene}
use Rattle.oamd.specs.declared.Divergence.{Divergence}
use Rattle.oamd.specs.declared.Precise.{Precise}
use Rattle.oamd.specs.Programme.{set?, dynamic_class}
use Rattle.oamd.specs.Extended.{no_divergence, no_precise}

pub record Record : Type 0 where
  pub scene : Scene
  pub divergence : Divergence
  pub precise : Precise

abbrev pub record_of : Scene → Divergence → Precise → Record
record_of s d p = record { scene = s; divergence = d; precise = p }

-- whether a scene can carry divergence and a precise position: an active block of a dynamic object
abbrev pub carries : Scene → Bool
carries s = both (set? s.active) (eqb s.class dynamic_class)

abbrev pub all_carry : List Scene → List Bool
all_carry [] = []
all_carry (s ∷ ss) = carries s ∷ all_carry ss

-- the records of scenes without an extended element
unfoldable pub plain_records : List Scene → List Record
plain_records [] = []
plain_records (s ∷ ss) = record_of s no_divergence no_precise ∷ plain_records ss

-- and with one
unfoldable pub extended_records : List Scene → List Divergence → List Precise → List Record
extended_records [] ds ps = []
extended_records (s ∷ ss) [] ps = []
extended_records (s ∷ ss) (d ∷ ds) [] = []
extended_records (s ∷ ss) (d ∷ ds) (p ∷ ps) = record_of s d p ∷ extended_records ss ds ps

-- byte by byte
abbrev pub scene_bytes : Scene → List ℕ
scene_bytes s =
    s.active ∷ s.class ∷ s.gain ∷ s.priority ∷ s.location.x ∷ s.location.y ∷ s.location.z ∷ s.location.distance
    ∷ s.volume.width ∷ s.volume.depth ∷ s.volume.height ∷ s.zone.index ∷ s.zone.elevation
    ∷ s.screen.used ∷ s.screen.factor ∷ s.screen.depth ∷ s.snap ∷ []

abbrev pub divergence_bytes : Divergence → List ℕ
divergence_bytes d = d.used ∷ d.mode ∷ d.value ∷ []

abbrev pub precise_bytes : Precise → List ℕ
precise_bytes p = p.presence ∷ p.x ∷ p.y ∷ p.z ∷ []

unfoldable pub record_bytes_of : Record → List ℕ
record_bytes_of r = scene_bytes r.scene ++ (divergence_bytes r.divergence ++ precise_bytes r.precise)

-- the bytes of records, one after the other, without their times (Time.antt)
unfoldable pub bytes_of : List Record → List ℕ
bytes_of [] = []
bytes_of (r ∷ rs) = record_bytes_of r ++ bytes_of rs

-- bytes in place of the first of a buffer; the others stay
unfoldable pub onto : List ℕ → List ℕ → List ℕ
onto front buffer = front ++ drop (length front) buffer
