-- 5.6.1 and 5.6.4: from coded blocks to scenes, block by block and object by object.
use Rattle.std.specs.Prelude.{Bool, true, List, [], ◌∷◌, ◌++◌, ℕ, ◌+◌, ◌-◌, ltb, eqb, get_or}
use Rattle.bits.specs.Language.{pick}
use Rattle.oamd.specs.declared.Status.{Status}
use Rattle.oamd.specs.declared.Status.TheVariants.{Default, Full, Reuse, Mixed}
use Rattle.oamd.specs.declared.Position.{Position}
use Rattle.oamd.specs.declared.Position.TheVariants.{Absolute, Moved}
use Rattle.oamd.specs.declared.Gain.{Gain}
use Rattle.oamd.specs.declared.Priority.{Priority}
use Rattle.oamd.specs.declared.Distance.{Distance}
use Rattle.oamd.specs.declared.Zone.{Zone}
use Rattle.oamd.specs.declared.Extent.{Extent}
use Rattle.oamd.specs.declared.Screen.{Screen}
use Rattle.oamd.specs.declared.Block.{Block}
use Rattle.oamd.specs.declared.Location.{Location}
use Rattle.oamd.specs.declared.Volume.{Volume}
use Rattle.oamd.specs.declared.Scene.{Scene}
use Rattle.oamd.specs.Tables.{distance_codes}
use Rattle.oamd.specs.Programme.{set?}
use Rattle.oamd.specs.Block.{has_gain, has_priority, has_position, has_zone, has_size, has_screen}

-- a value by its status: the default; as sent; that of the block before; as sent or else that of the block before (Tables 28 and 29)
abbrev pub value_of : {A : Type 0} → Status → Bool → A → A → A → A
value_of Default sent default value_before value = default
value_of Full sent default value_before value = value
value_of Reuse sent default value_before value = value_before
value_of Mixed sent default value_before value = pick sent value value_before

-- 0 dB as a record has it: the gain in dB plus 50
abbrev pub zero_db : ℕ
zero_db = 50

-- the gain in dB plus 50, and 0 for minus infinity; index 3 takes that of the object before in the same block (Tables 18 and 19)
unfoldable pub gain_of : Gain → ℕ → ℕ
gain_of g gain_before =
    pick (eqb g.index 0) zero_db
    (pick (eqb g.index 1) 0
    (pick (eqb g.index 2) (pick (ltb g.bits 15) (zero_db + 15 - g.bits) (zero_db + 14 - g.bits))
    gain_before))

-- the priority in 32nds (5.6.1.3)
unfoldable pub priority_of : Priority → ℕ
priority_of p = pick (set? p.bydefault) 32 p.bits

-- v, but at least low and at most high
abbrev pub clamp : ℕ → ℕ → ℕ → ℕ
clamp low high v = pick (ltb v low) low (pick (ltb high v) high v)

-- v moved by a difference of 3 bits in two's complement; below 0 it is 0
abbrev pub moved_by : ℕ → ℕ → ℕ
moved_by v d = pick (ltb d 4) (v + d) (v + d - 8)

-- the numerator of x and y, at most 62 of 62 (5.6.1.1.8, 5.6.1.1.9)
abbrev pub across : ℕ → ℕ
across v = clamp 0 62 v

-- z = 0 as a record has it: the numerator of z over 15, with its sign, plus 64
abbrev pub zero_z : ℕ
zero_z = 64

abbrev pub upright : ℕ → ℕ
upright v = clamp (zero_z - 15) (zero_z + 15) v

-- sign 0 is minus (5.6.1.1.10, 5.6.1.1.11)
abbrev pub height_of : ℕ → ℕ → ℕ
height_of sign z = pick (eqb sign 0) (zero_z - z) (zero_z + z)

-- 0 not given, 1 infinity, else by the index (5.6.1.1.15 to 5.6.1.1.17)
unfoldable pub distance_of : Distance → ℕ
distance_of d = pick (set? d.given) (pick (set? d.infinite) 1 (get_or distance_codes d.index 0)) 0

-- A moved position starts from that of the block before, and each coordinate stays within its range (5.6.1.1.12 to 5.6.1.1.14)
unfoldable pub location_of : Position → ℕ → Location → Location
location_of (Absolute x y sign z) distance location_before = record { x = across x; y = across y; z = upright (height_of sign z); distance = distance }
location_of (Moved x y z) distance location_before = record {
  x = across (moved_by location_before.x x);
  y = across (moved_by location_before.y y);
  z = upright (moved_by location_before.z z);
  distance = distance;
}

-- Table 17
unfoldable pub volume_of : Extent → Volume
volume_of e = pick (eqb e.index 2)
    (record { width = e.width; depth = e.depth; height = e.height })
    (pick (eqb e.index 1) (record { width = e.all; depth = e.all; height = e.all }) (record { width = 0; depth = 0; height = 0 }))

-- Tables 28 and 29, defaults; what Table 29 does not name is 0
abbrev pub default_location : Location
default_location = record { x = 31; y = 31; z = zero_z; distance = 0 }

abbrev pub default_volume : Volume
default_volume = record { width = 0; depth = 0; height = 0 }

abbrev pub default_zone : Zone
default_zone = record { index = 0; elevation = 1 }

abbrev pub default_screen : Screen
default_screen = record { used = 0; factor = 0; depth = 0 }

-- what an inactive object of a class is
abbrev pub idle : ℕ → Scene
idle class = record {
  active = 0;
  class = class;
  gain = 0;
  priority = 0;
  location = default_location;
  volume = default_volume;
  zone = default_zone;
  screen = default_screen;
  snap = 0;
}

-- A block, by the scene of the block before and the gain of the object before in the same block
unfoldable pub resolve : Scene → ℕ → Block → Scene
resolve block_before gain_before b = record {
  active = b.active;
  class = b.class;
  gain = value_of b.basic.status (has_gain b.basic.parts) 0 block_before.gain (gain_of b.basic.gain gain_before);
  priority = value_of b.basic.status (has_priority b.basic.parts) 0 block_before.priority (priority_of b.basic.priority);
  location =
      value_of b.render.status (has_position b.render.parts) default_location block_before.location
      (location_of b.render.position (distance_of b.render.distance) block_before.location);
  volume = value_of b.render.status (has_size b.render.parts) default_volume block_before.volume (volume_of b.render.extent);
  zone = value_of b.render.status (has_zone b.render.parts) default_zone block_before.zone b.render.zone;
  screen = value_of b.render.status (has_screen b.render.parts) default_screen block_before.screen b.render.screen;
  snap = value_of b.render.status true 0 block_before.snap b.render.snap;
}

-- the gain of the object before in the next block, 0 dB where there is no object before (Table 18)
abbrev pub first_gain : List Scene → ℕ
first_gain [] = zero_db
first_gain (s ∷ ss) = s.gain

abbrev pub behind_first : List Scene → List Scene
behind_first [] = []
behind_first (s ∷ ss) = ss

-- the scenes of one object, by the scene of the block before and the scenes of the object before from this block on
unfoldable pub scenes_from : Scene → List Scene → List Block → List Scene
scenes_from block_before object_before [] = []
scenes_from block_before object_before (b ∷ bs) =
    let s = resolve block_before (first_gain object_before) b in
    s ∷ scenes_from s (behind_first object_before) bs

-- before block 0; no scene is made of it, since block 0 is full or by default and its position absolute (proofs/Seed.antt)
abbrev pub nothing_before : Scene
nothing_before = idle 0

unfoldable pub scenes_of : List Scene → List Block → List Scene
scenes_of object_before o = scenes_from nothing_before object_before o

-- the scenes of all objects, one object after the other
unfoldable pub all_scenes : List Scene → List (List Block) → List Scene
all_scenes object_before [] = []
all_scenes object_before (o ∷ os) =
    let mine = scenes_of object_before o in
    mine ++ all_scenes mine os
