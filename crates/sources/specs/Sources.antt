-- Where each byte of a record comes from, by the coded block and extension. A source is found as the value is: each function has the shape of the one in oamd/specs/Meaning.antt that
-- gives the value, and goes by the status with the same `value_of`.
use Rattle.std.specs.Prelude.{Bool, true, List, [], ◌∷◌, ℕ, eqb}
use Rattle.bits.specs.Language.{pick, both}
use Rattle.oamd.specs.declared.Position.{Position}
use Rattle.oamd.specs.declared.Position.TheVariants.{Absolute, Moved}
use Rattle.oamd.specs.declared.Gain.{Gain}
use Rattle.oamd.specs.declared.Priority.{Priority}
use Rattle.oamd.specs.declared.Distance.{Distance}
use Rattle.oamd.specs.declared.Extent.{Extent}
use Rattle.oamd.specs.declared.Screen.{Screen}
use Rattle.oamd.specs.declared.Block.{Block}
use Rattle.oamd.specs.declared.Divergence.{Divergence}
use Rattle.oamd.specs.declared.Precise.{Precise}
use Rattle.oamd.specs.Programme.{set?}
use Rattle.oamd.specs.Block.{has_gain, has_priority, has_position, has_zone, has_size, has_screen}
use Rattle.oamd.specs.Extended.{has_x, has_y, has_z}
use Rattle.oamd.specs.Meaning.{value_of}
use Rattle.sources.specs.declared.Field.{Field}
use Rattle.sources.specs.declared.Field.TheVariants.{NotActive, GainIdx, GainBits, DefaultPriority, PriorityBits, DiffX, DiffY, DiffZ, PosX, PosY, PosZ}
use Rattle.sources.specs.declared.Field.TheVariants.{DistanceSpecified, AtInfinity, DistanceIdx, ZoneIdx, Elevation, SizeIdx, SizeBits, Width, Depth, Height}
use Rattle.sources.specs.declared.Field.TheVariants.{ScreenRef, ScreenFactor, DepthIdx, Snap, ObjectDivergence, DivMode, DivTable, DivCode, Presence}
use Rattle.sources.specs.declared.Field.TheVariants.{PreciseX, PreciseY, PreciseZ}
use Rattle.sources.specs.declared.Source.{Source}
use Rattle.sources.specs.declared.Source.TheVariants.{ByField, ByProgramme, ByBasicDefault, ByRenderDefault, ByNothing, ByBlock, ByMove, ByObject}

-- ---- the fields: for each the clause that it stands in, the path of its line there (Places.antt), and how many bits it has

-- object_info_block (5.5.9) with object_basic_info (5.5.10) and object_render_info (5.5.11) in it; obj_div_block (5.5.14); ext_prec_pos_block (5.5.15)
pub data Clause : Type 0 where
  info_block : Clause
  div_block : Clause
  prec_block : Clause

pub record Line : Type 0 where
  pub clause : Clause
  pub path : List ℕ
  pub width : ℕ

abbrev pub line : Clause → List ℕ → ℕ → Line
line clause path width = record { clause = clause; path = path; width = width }

abbrev pub line_of : Field → Line
line_of NotActive = line info_block (0 ∷ []) 1  -- 5.5.9 b_object_not_active
line_of GainIdx = line info_block (2 ∷ 1 ∷ []) 2  -- 5.5.10 object_gain_idx
line_of GainBits = line info_block (2 ∷ 2 ∷ []) 6  -- 5.5.10 object_gain_bits
line_of DefaultPriority = line info_block (2 ∷ 3 ∷ []) 1  -- 5.5.10 b_default_object_priority
line_of PriorityBits = line info_block (2 ∷ 4 ∷ []) 5  -- 5.5.10 object_priority_bits
line_of DiffX = line info_block (4 ∷ 1 ∷ 1 ∷ []) 3  -- 5.5.11 diff_pos3D_X_bits
line_of DiffY = line info_block (4 ∷ 1 ∷ 2 ∷ []) 3  -- 5.5.11 diff_pos3D_Y_bits
line_of DiffZ = line info_block (4 ∷ 1 ∷ 3 ∷ []) 3  -- 5.5.11 diff_pos3D_Z_bits
line_of PosX = line info_block (4 ∷ 1 ∷ 1 ∷ []) 6  -- 5.5.11 pos3D_X_bits
line_of PosY = line info_block (4 ∷ 1 ∷ 2 ∷ []) 6  -- 5.5.11 pos3D_Y_bits
line_of PosZ = line info_block (4 ∷ 1 ∷ 4 ∷ []) 4  -- 5.5.11 pos3D_Z_bits
line_of DistanceSpecified = line info_block (4 ∷ 2 ∷ 0 ∷ []) 1  -- 5.5.11 b_object_distance_specified
line_of AtInfinity = line info_block (4 ∷ 2 ∷ 1 ∷ []) 1  -- 5.5.11 b_object_at_infinity
line_of DistanceIdx = line info_block (4 ∷ 2 ∷ 2 ∷ []) 4  -- 5.5.11 distance_factor_idx
line_of ZoneIdx = line info_block (4 ∷ 3 ∷ 0 ∷ []) 3  -- 5.5.11 zone_constraints_idx
line_of Elevation = line info_block (4 ∷ 3 ∷ 1 ∷ []) 1  -- 5.5.11 b_enable_elevation
line_of SizeIdx = line info_block (4 ∷ 4 ∷ 0 ∷ []) 2  -- 5.5.11 object_size_idx
line_of SizeBits = line info_block (4 ∷ 4 ∷ 1 ∷ []) 5  -- 5.5.11 object_size_bits
line_of Width = line info_block (4 ∷ 4 ∷ 2 ∷ []) 5  -- 5.5.11 object_width_bits
line_of Depth = line info_block (4 ∷ 4 ∷ 3 ∷ []) 5  -- 5.5.11 object_depth_bits
line_of Height = line info_block (4 ∷ 4 ∷ 4 ∷ []) 5  -- 5.5.11 object_height_bits
line_of ScreenRef = line info_block (4 ∷ 5 ∷ 0 ∷ []) 1  -- 5.5.11 b_object_use_screen_ref
line_of ScreenFactor = line info_block (4 ∷ 5 ∷ 1 ∷ []) 3  -- 5.5.11 screen_factor_bits
line_of DepthIdx = line info_block (4 ∷ 5 ∷ 2 ∷ []) 2  -- 5.5.11 depth_factor_idx
line_of Snap = line info_block (4 ∷ 6 ∷ []) 1  -- 5.5.11 b_object_snap
line_of ObjectDivergence = line div_block (0 ∷ []) 1  -- 5.5.14 b_object_divergence
line_of DivMode = line div_block (1 ∷ []) 2  -- 5.5.14 object_div_mode
line_of DivTable = line div_block (2 ∷ []) 2  -- 5.5.14 object_div_table
line_of DivCode = line div_block (3 ∷ []) 6  -- 5.5.14 object_div_code
line_of Presence = line prec_block (1 ∷ []) 3  -- 5.5.15 ext_prec_pos_presence[]
line_of PreciseX = line prec_block (2 ∷ []) 2  -- 5.5.15 ext_prec_pos3D_X
line_of PreciseY = line prec_block (3 ∷ []) 2  -- 5.5.15 ext_prec_pos3D_Y
line_of PreciseZ = line prec_block (4 ∷ []) 2  -- 5.5.15 ext_prec_pos3D_Z

abbrev pub width_of : Field → ℕ
width_of f = (line_of f).width

-- a field's number in an answer; 0 stands for none
abbrev pub field_number : Field → ℕ
field_number NotActive = 1
field_number GainIdx = 2
field_number GainBits = 3
field_number DefaultPriority = 4
field_number PriorityBits = 5
field_number DiffX = 6
field_number DiffY = 7
field_number DiffZ = 8
field_number PosX = 9
field_number PosY = 10
field_number PosZ = 11
field_number DistanceSpecified = 12
field_number AtInfinity = 13
field_number DistanceIdx = 14
field_number ZoneIdx = 15
field_number Elevation = 16
field_number SizeIdx = 17
field_number SizeBits = 18
field_number Width = 19
field_number Depth = 20
field_number Height = 21
field_number ScreenRef = 22
field_number ScreenFactor = 23
field_number DepthIdx = 24
field_number Snap = 25
field_number ObjectDivergence = 26
field_number DivMode = 27
field_number DivTable = 28
field_number DivCode = 29
field_number Presence = 30
field_number PreciseX = 31
field_number PreciseY = 32
field_number PreciseZ = 33

-- a source's number in an answer: the block before has one number, moved or not
abbrev pub source_number : Source → ℕ
source_number (ByField f) = 1
source_number ByProgramme = 2
source_number ByBasicDefault = 3
source_number ByRenderDefault = 4
source_number ByNothing = 5
source_number ByBlock = 6
source_number (ByMove f d) = 6
source_number ByObject = 7

-- ---- bytes 0 to 16: what is sent, by what was read

-- index 3 is the object before, save at the first object (Table 18)
unfoldable pub gain_source : Bool → Gain → Source
gain_source first g =
    pick (eqb g.index 0) (ByField GainIdx)
    (pick (eqb g.index 1) (ByField GainIdx)
    (pick (eqb g.index 2) (ByField GainBits)
    (pick first (ByField GainIdx) ByObject)))

unfoldable pub priority_source : Priority → Source
priority_source p = pick (set? p.bydefault) (ByField DefaultPriority) (ByField PriorityBits)

unfoldable pub x_source : Position → Source
x_source (Absolute x y sign z) = ByField PosX
x_source (Moved x y z) = ByMove DiffX x

unfoldable pub y_source : Position → Source
y_source (Absolute x y sign z) = ByField PosY
y_source (Moved x y z) = ByMove DiffY y

-- the sign is read before the bits
unfoldable pub z_source : Position → Source
z_source (Absolute x y sign z) = ByField PosZ
z_source (Moved x y z) = ByMove DiffZ z

unfoldable pub distance_source : Distance → Source
distance_source d = pick (set? d.given) (pick (set? d.infinite) (ByField AtInfinity) (ByField DistanceIdx)) (ByField DistanceSpecified)

-- own is the field of the width, of the depth or of the height (Table 17)
unfoldable pub size_source : Field → Extent → Source
size_source own e = pick (eqb e.index 2) (ByField own) (pick (eqb e.index 1) (ByField SizeBits) (ByField SizeIdx))

-- own is the field of the screen factor or of the depth factor
unfoldable pub screen_source : Field → Screen → Source
screen_source own s = pick (set? s.used) (ByField own) (ByField ScreenRef)

-- by the status (Tables 28 and 29): sent says that the part is there, and x is the source if it is
abbrev pub basic_source : Block → Bool → Source → Source
basic_source b sent x = value_of b.basic.status sent ByBasicDefault ByBlock x

abbrev pub render_source : Block → Bool → Source → Source
render_source b sent x = value_of b.render.status sent ByRenderDefault ByBlock x

-- byte 2; first says that this is object 0
abbrev pub gain_from : Bool → Block → Source
gain_from first b = basic_source b (has_gain b.basic.parts) (gain_source first b.basic.gain)

-- bytes 0 to 16, in the order of scene_bytes
unfoldable pub scene_sources : Bool → Block → List Source
scene_sources first b =
    ByField NotActive
    ∷ ByProgramme
    ∷ gain_from first b
    ∷ basic_source b (has_priority b.basic.parts) (priority_source b.basic.priority)
    ∷ render_source b (has_position b.render.parts) (x_source b.render.position)
    ∷ render_source b (has_position b.render.parts) (y_source b.render.position)
    ∷ render_source b (has_position b.render.parts) (z_source b.render.position)
    ∷ render_source b (has_position b.render.parts) (distance_source b.render.distance)
    ∷ render_source b (has_size b.render.parts) (size_source Width b.render.extent)
    ∷ render_source b (has_size b.render.parts) (size_source Depth b.render.extent)
    ∷ render_source b (has_size b.render.parts) (size_source Height b.render.extent)
    ∷ render_source b (has_zone b.render.parts) (ByField ZoneIdx)
    ∷ render_source b (has_zone b.render.parts) (ByField Elevation)
    ∷ render_source b (has_screen b.render.parts) (ByField ScreenRef)
    ∷ render_source b (has_screen b.render.parts) (screen_source ScreenFactor b.render.screen)
    ∷ render_source b (has_screen b.render.parts) (screen_source DepthIdx b.render.screen)
    ∷ render_source b true (ByField Snap)
    ∷ []

-- ---- bytes 17 to 23: a byte's own field, or else nothing carried

abbrev pub if_sent : Bool → Field → Source
if_sent sent f = pick sent (ByField f) ByNothing

-- bytes 17 to 19, in the order of divergence_bytes; sent says that b_object_divergence was sent. Mode 1 has no field for byte 19
unfoldable pub divergence_sources : Bool → Divergence → List Source
divergence_sources sent d =
    if_sent sent ObjectDivergence
    ∷ if_sent (set? d.used) DivMode
    ∷ pick (both (set? d.used) (eqb d.mode 0)) (ByField DivTable) (if_sent (eqb d.mode 2) DivCode)
    ∷ []

-- bytes 20 to 23, in the order of precise_bytes; sent says that ext_prec_pos_presence[] was sent
unfoldable pub precise_sources : Bool → Precise → List Source
precise_sources sent p =
    if_sent sent Presence
    ∷ if_sent (has_x p.presence) PreciseX
    ∷ if_sent (has_y p.presence) PreciseY
    ∷ if_sent (has_z p.presence) PreciseZ
    ∷ []
