-- Bits packed into a number: what a function that packs fields promises, and the parts into which a block is packed.
use Rattle.std.specs.Prelude.{◌≡◌, Bool, true, List, ◌++◌, ℕ, ◌+◌, ◌-◌, ◌^◌, ◌≤◌, ◌<◌, eqb}
use Rattle.bits.specs.Language.{both}
use Rattle.bits.specs.Writes.{to_bits, only}
use Rattle.oamd.specs.declared.Scene.{Scene}
use Rattle.oamd.specs.declared.Precise.{Precise}
use Rattle.oamd.specs.declared.Programme.{Programme}
use Rattle.oamd.specs.declared.TrimConfig.{TrimConfig}
use Rattle.oamd.specs.Programme.{set?, clear?, has_beds, has_isf, has_dynamic}
use Rattle.oamd.specs.Extended.{has_x, has_y, has_z}
use Rattle.oamd.specs.Trim.{has_centre, has_surround, has_height, has_tb, has_lis}
use Rattle.form.specs.Coded.{coded_distance, coded_extent}
use Rattle.form.specs.Form.{count_bits, status_bits, position_bits, distance_bits, zone_bits, extent_bits, screen_bits, basic_bits}
use Rattle.coding.specs.declared.Packed.{Packed}

-- as many bits as are packed into one number
abbrev pub widest_packed : ℕ
widest_packed = 56

-- the bits of p are those of l
pub record Packs (p : Packed) (l : List ℕ) : Type 0 where
  pub same : to_bits p.width.0 p.value ≡ l
  pub small : p.value < 2 ^ p.width.0

-- and they are at least low and at most high in number
pub record PacksIn (low high : ℕ) (p : Packed) (l : List ℕ) : Type 0 where
  pub packs : Packs p l
  pub least : low ≤ p.width.0
  pub most : p.width.0 ≤ high

-- n more bits, at least one, have room behind those of p
pub record Room (n : ℕ) (p : Packed) : Type 0 where
  pub some : 1 ≤ n
  pub fits : p.width.0 + n ≤ widest_packed
  pub small : p.value < 2 ^ p.width.0

-- and w of them hold all of v
pub record Whole (w v : ℕ) (p : Packed) : Type 0 where
  pub room : Room w p
  pub all : v < 2 ^ w

-- the bits of r are those of p and behind them those of l, which are at least low and at most high in number
pub record Behind (low high : ℕ) (p r : Packed) (l : List ℕ) : Type 0 where
  pub same : to_bits r.width.0 r.value ≡ to_bits p.width.0 p.value ++ l
  pub small : r.value < 2 ^ r.width.0
  pub least : p.width.0 + low ≤ r.width.0
  pub most : r.width.0 ≤ p.width.0 + high

-- ---- a block (5.5.9 to 5.5.11), in parts

-- whether it is active, and gain and priority
unfoldable pub opening_bits : Bool → Scene → List ℕ
opening_bits first s = to_bits 1 (1 - s.active) ++ (status_bits (set? s.active) first ++ only (set? s.active) (basic_bits s))

-- where render info is sent: that, and the position, the distance and the zone
unfoldable pub fore_bits : Bool → Scene → List ℕ
fore_bits first s =
    opening_bits first s
    ++ (status_bits true first ++ (position_bits first s.location ++ (distance_bits (coded_distance s.location.distance) ++ zone_bits s.zone)))

-- the size, screen and snap, and no additional table data
unfoldable pub aft_bits : Scene → List ℕ
aft_bits s = extent_bits (coded_extent s.volume) ++ (screen_bits s.screen ++ (to_bits 1 s.snap ++ to_bits 1 0))

-- ---- what stands before the elements (5.5.2, 5.5.3)

-- of the program assignment: up to the content
abbrev pub content_bits : Programme → List ℕ
content_bits p = to_bits 1 p.dynonly ++ (only (set? p.dynonly) (to_bits 1 p.lfe) ++ only (clear? p.dynonly) (to_bits 4 p.content))

-- and what stands before the list of beds
abbrev pub bed_field_bits : Programme → List ℕ
bed_field_bits p =
    only (has_beds p.content) (to_bits 1 p.distribute)
    ++ (only (has_beds p.content) (to_bits 1 p.multiple) ++ only (set? p.multiple) (to_bits 3 p.instances))

-- all before that list
abbrev pub head_bits : Programme → List ℕ
head_bits p = to_bits 2 0 ++ (count_bits (p.objects - 1) ++ (content_bits p ++ bed_field_bits p))

-- and all behind it, up to the count of elements
abbrev pub tail_bits : Programme → List ℕ
tail_bits p = only (has_isf p.content) (to_bits 3 p.isf) ++ (only (has_dynamic p.content) (count_bits p.dynamics) ++ to_bits 1 0)

-- ---- of an update (5.5.7): its ramp
abbrev pub ramp_bits : ℕ → ℕ → ℕ → ℕ → List ℕ
ramp_bits code indexed index bits =
    to_bits 2 code
    ++ (only (eqb code 3) (to_bits 1 indexed) ++ (only (set? indexed) (to_bits 4 index) ++ only (both (eqb code 3) (clear? indexed)) (to_bits 11 bits)))

-- ---- the extended element (5.5.15) and the trim element (5.5.12)

-- of a precise position: its axes
abbrev pub axes_bits : Precise → List ℕ
axes_bits p = only (has_x p.presence) (to_bits 2 p.x) ++ (only (has_y p.presence) (to_bits 2 p.y) ++ only (has_z p.presence) (to_bits 2 p.z))

-- of a trim configuration: the two balances
abbrev pub balances_bits : TrimConfig → List ℕ
balances_bits c =
    only (has_tb c.presence) (to_bits 1 c.tbsign)
    ++ (only (has_tb c.presence) (to_bits 4 c.tbamount)
    ++ (only (has_lis c.presence) (to_bits 1 c.lissign) ++ only (has_lis c.presence) (to_bits 4 c.lisamount)))

-- the three trims, and the balances
abbrev pub trims_bits : TrimConfig → List ℕ
trims_bits c =
    only (has_centre c.presence) (to_bits 4 c.centre)
    ++ (only (has_surround c.presence) (to_bits 4 c.surround)
    ++ (only (has_height c.presence) (to_bits 4 c.height) ++ balances_bits c))
