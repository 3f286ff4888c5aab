-- 5.5.9 object_info_block, 5.5.10 object_basic_info, 5.5.11 object_render_info: from bits to a coded block.
use Rattle.std.specs.Prelude.{Bool, true, false, not, ℕ, ◌+◌, ◌-◌, ◌*◌, eqb}
use Rattle.bits.specs.Language.{pick, both, P, give, ◌>>=◌, bits, when, bits_if, skip, flag}
use Rattle.oamd.specs.declared.Status.{Status}
use Rattle.oamd.specs.declared.Status.TheVariants.{Default, Full, Reuse, Mixed}
use Rattle.oamd.specs.declared.Position.{Position}
use Rattle.oamd.specs.declared.Position.TheVariants.{Absolute, Moved}
use Rattle.oamd.specs.declared.Basic.{Basic}
use Rattle.oamd.specs.declared.Distance.{Distance}
use Rattle.oamd.specs.declared.Zone.{Zone}
use Rattle.oamd.specs.declared.Extent.{Extent}
use Rattle.oamd.specs.declared.Screen.{Screen}
use Rattle.oamd.specs.declared.Render.{Render}
use Rattle.oamd.specs.declared.Block.{Block}
use Rattle.oamd.specs.Programme.{set?, clear?, dynamic_class}
use Rattle.oamd.specs.Reserved.{ZoneConstraintsIdx, ObjectSizeIdx, unreserved_if}

-- Tables 28 and 29, first column
abbrev pub status_of : ℕ → Status
status_of n = pick (eqb n 0) Default (pick (eqb n 1) Full (pick (eqb n 2) Reuse Mixed))

-- a status: default where nothing can be sent, full in the first block, else 2 bits
unfoldable pub status_idx : Bool → Bool → P Status
status_idx none first = pick none (give Default) (pick first (give Full) (bits 2 >>= λ n. give (status_of n)))

-- which parts of a group are sent, as an array of w flags: all of them, as its w bits say, or none
abbrev pub parts_of : ℕ → ℕ → Status → P ℕ
parts_of all w Default = give {A = ℕ} 0
parts_of all w Full = give all
parts_of all w Reuse = give {A = ℕ} 0
parts_of all w Mixed = bits w

-- something is sent at all
abbrev pub sends : Status → Bool
sends Default = false
sends Full = true
sends Reuse = false
sends Mixed = true

-- Table 30: the parts of object_basic_info[], by index
abbrev pub has_gain : ℕ → Bool
has_gain parts = set? (flag 2 1 parts)

abbrev pub has_priority : ℕ → Bool
has_priority parts = set? (flag 2 0 parts)

unfoldable pub object_basic_info : Status → P Basic
object_basic_info status = do
  object_basic_info ← parts_of 3 2 status
  object_gain_idx ← bits_if (has_gain object_basic_info) 2
  object_gain_bits ← bits_if (eqb object_gain_idx 2) 6
  b_default_object_priority ← bits_if (has_priority object_basic_info) 1
  object_priority_bits ← bits_if (both (has_priority object_basic_info) (clear? b_default_object_priority)) 5
  give {A = Basic} (record {
    status = status;
    parts = object_basic_info;
    gain = record { index = object_gain_idx; bits = object_gain_bits };
    priority = record { bydefault = b_default_object_priority; bits = object_priority_bits };
  })

-- Table 31: the parts of obj_render_info[], by index. (The indices printed in 5.5.11 are those of an older mask.)
abbrev pub has_position : ℕ → Bool
has_position parts = set? (flag 4 3 parts)

abbrev pub has_zone : ℕ → Bool
has_zone parts = set? (flag 4 2 parts)

abbrev pub has_size : ℕ → Bool
has_size parts = set? (flag 4 1 parts)

abbrev pub has_screen : ℕ → Bool
has_screen parts = set? (flag 4 0 parts)

unfoldable pub differences : P Position
differences = do
  diff_pos3D_X_bits ← bits 3
  diff_pos3D_Y_bits ← bits 3
  diff_pos3D_Z_bits ← bits 3
  give (Moved diff_pos3D_X_bits diff_pos3D_Y_bits diff_pos3D_Z_bits)

unfoldable pub coordinates : P Position
coordinates = do
  pos3D_X_bits ← bits 6
  pos3D_Y_bits ← bits 6
  pos3D_Z_sign_bits ← bits 1
  pos3D_Z_bits ← bits 4
  give (Absolute pos3D_X_bits pos3D_Y_bits pos3D_Z_sign_bits pos3D_Z_bits)

-- the position of a group that is not sent
abbrev pub nowhere : Position
nowhere = Absolute 0 0 0 0

unfoldable pub position : Bool → Bool → P Position
position on first = do
  b_differential_position_specified ← bits_if (both on (not first)) 1
  pick on (pick (set? b_differential_position_specified) differences coordinates) (give nowhere)

unfoldable pub distance : Bool → P Distance
distance on = do
  b_object_distance_specified ← bits_if on 1
  b_object_at_infinity ← bits_if (set? b_object_distance_specified) 1
  distance_factor_idx ← bits_if (both (set? b_object_distance_specified) (clear? b_object_at_infinity)) 4
  give {A = Distance} (record { given = b_object_distance_specified; infinite = b_object_at_infinity; index = distance_factor_idx })

unfoldable pub zone : Bool → P Zone
zone on = do
  zone_constraints_idx ← unreserved_if on ZoneConstraintsIdx
  b_enable_elevation ← bits_if on 1
  give {A = Zone} (record { index = zone_constraints_idx; elevation = b_enable_elevation })

unfoldable pub extent : Bool → P Extent
extent on = do
  object_size_idx ← unreserved_if on ObjectSizeIdx
  object_size_bits ← bits_if (eqb object_size_idx 1) 5
  object_width_bits ← bits_if (eqb object_size_idx 2) 5
  object_depth_bits ← bits_if (eqb object_size_idx 2) 5
  object_height_bits ← bits_if (eqb object_size_idx 2) 5
  give {A = Extent} (record {
    index = object_size_idx;
    all = object_size_bits;
    width = object_width_bits;
    depth = object_depth_bits;
    height = object_height_bits;
  })

unfoldable pub screen : Bool → P Screen
screen on = do
  b_object_use_screen_ref ← bits_if on 1
  screen_factor_bits ← bits_if (set? b_object_use_screen_ref) 3
  depth_factor_idx ← bits_if (set? b_object_use_screen_ref) 2
  give {A = Screen} (record { used = b_object_use_screen_ref; factor = screen_factor_bits; depth = depth_factor_idx })

unfoldable pub object_render_info : Status → Bool → P Render
object_render_info status first = do
  obj_render_info ← parts_of 15 4 status
  position ← position (has_position obj_render_info) first
  distance ← distance (has_position obj_render_info)
  zone ← zone (has_zone obj_render_info)
  extent ← extent (has_size obj_render_info)
  screen ← screen (has_screen obj_render_info)
  b_object_snap ← bits_if (sends status) 1
  give {A = Render} (record {
    status = status;
    parts = obj_render_info;
    position = position;
    distance = distance;
    zone = zone;
    extent = extent;
    screen = screen;
    snap = b_object_snap;
  })

-- read in every block, and passed over
unfoldable pub additional_table_data : P ℕ
additional_table_data = do
  b_additional_table_data_exists ← bits 1
  additional_table_data_size_bits ← bits_if (set? b_additional_table_data_exists) 4
  when (set? b_additional_table_data_exists) (skip (8 * (additional_table_data_size_bits + 1))) 0

-- block blk of an object of a class
unfoldable pub object_info_block : ℕ → ℕ → P Block
object_info_block class blk = do
  b_object_not_active ← bits 1
  object_basic_info_status_idx ← status_idx (set? b_object_not_active) (eqb blk 0)
  basic ← object_basic_info object_basic_info_status_idx
  object_render_info_status_idx ← status_idx (pick (set? b_object_not_active) true (not (eqb class dynamic_class))) (eqb blk 0)
  render ← object_render_info object_render_info_status_idx (eqb blk 0)
  additional ← additional_table_data
  give {A = Block} (record { class = class; active = 1 - b_object_not_active; basic = basic; render = render })
