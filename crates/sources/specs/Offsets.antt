-- Where a field stands in its clause: behind the widths of all that was sent before it, which the coded block, or entry of the extended element, tells.
use Rattle.std.specs.Prelude.{Bool, true, false, not, List, [], ◌∷◌, map, ◌≡◌, ℕ, zero, suc, ◌+◌, ◌-◌, ◌≤◌, eqb, get_or}
use Rattle.bits.specs.Language.{pick, both}
use Rattle.oamd.specs.declared.Status.{Status}
use Rattle.oamd.specs.declared.Status.TheVariants.{Default, Full, Reuse, Mixed}
use Rattle.oamd.specs.declared.Position.{Position}
use Rattle.oamd.specs.declared.Position.TheVariants.{Absolute, Moved}
use Rattle.oamd.specs.declared.Basic.{Basic}
use Rattle.oamd.specs.declared.Distance.{Distance}
use Rattle.oamd.specs.declared.Zone.{Zone}
use Rattle.oamd.specs.declared.Extent.{Extent}
use Rattle.oamd.specs.declared.Screen.{Screen}
use Rattle.oamd.specs.declared.Render.{Render}
use Rattle.oamd.specs.declared.Block.{Block}
use Rattle.oamd.specs.declared.Divergence.{Divergence}
use Rattle.oamd.specs.declared.Precise.{Precise}
use Rattle.oamd.specs.Programme.{set?, clear?, dynamic_class}
use Rattle.oamd.specs.Block.{has_gain, has_priority, has_position, has_zone, has_size, has_screen, sends}
use Rattle.oamd.specs.Extended.{has_x, has_y, has_z}
use Rattle.sources.specs.declared.Field.{Field}
use Rattle.sources.specs.declared.Spot.{Spot}
use Rattle.sources.specs.declared.Spot.TheVariants.{InBlock, InBasic, InRender, InDivergence, InPrecise}
use Rattle.sources.specs.Sources.{Clause, info_block, div_block, prec_block, line_of}

-- ---- what the lines of a clause carry

-- The lines of a clause, as they were read: no more lines; a field, there only if the test holds, with its width and its number; a line, and the lines behind it.
infixr 20 ◌⊲◌
pub data Lines : Type 0 where
  no_more : Lines
  carry : Bool → ℕ → ℕ → Lines
  ◌⊲◌ : Lines → Lines → Lines

-- how many bits they take
unfoldable pub span : Lines → ℕ
span no_more = 0
span (carry on w v) = pick on w 0
span (l ⊲ m) = span l + span m

-- how many bits stand before the line at a path
unfoldable pub offset_at : List ℕ → Lines → ℕ
offset_at path no_more = 0
offset_at path (carry on w v) = 0
offset_at [] (l ⊲ m) = 0
offset_at (zero ∷ []) (l ⊲ m) = 0
offset_at (zero ∷ (n ∷ path)) (l ⊲ m) = offset_at (n ∷ path) l
offset_at (suc n ∷ path) (l ⊲ m) = span l + offset_at (n ∷ path) m

-- lines, one behind the other
abbrev pub in_row : List Lines → Lines
in_row [] = no_more
in_row (l ∷ ls) = l ⊲ in_row ls

-- ---- clause by clause

-- a field that is refused where its value is reserved is a clause by itself
abbrev pub refusable : Bool → ℕ → ℕ → Lines
refusable on w v = carry on w v ⊲ no_more

-- a status, n: not sent where nothing can be sent, nor in block 0
abbrev pub status_lines : Bool → Bool → ℕ → Lines
status_lines none begins n = carry (pick none false (not begins)) 2 n ⊲ no_more

-- the flags of the parts are sent only in a mixed group
abbrev pub is_mixed : Status → Bool
is_mixed Default = false
is_mixed Full = false
is_mixed Reuse = false
is_mixed Mixed = true

unfoldable pub basic_lines : Basic → List Lines
basic_lines x =
    carry (is_mixed x.status) 2 x.parts
    ∷ carry (has_gain x.parts) 2 x.gain.index
    ∷ carry (eqb x.gain.index 2) 6 x.gain.bits
    ∷ carry (has_priority x.parts) 1 x.priority.bydefault
    ∷ carry (both (has_priority x.parts) (clear? x.priority.bydefault)) 5 x.priority.bits
    ∷ []

abbrev pub coordinate_lines : Position → List Lines
coordinate_lines (Absolute x y sign z) = carry true 6 x ∷ carry true 6 y ∷ carry true 1 sign ∷ carry true 4 z ∷ []
coordinate_lines (Moved x y z) = carry true 3 x ∷ carry true 3 y ∷ carry true 3 z ∷ []

-- moved is b_differential_position_specified
unfoldable pub position_lines : Bool → Bool → ℕ → Position → List Lines
position_lines on begins moved p = carry (both on (not begins)) 1 moved ∷ pick on (coordinate_lines p) []

unfoldable pub distance_lines : Bool → Distance → List Lines
distance_lines on d =
    carry on 1 d.given
    ∷ carry (set? d.given) 1 d.infinite
    ∷ carry (both (set? d.given) (clear? d.infinite)) 4 d.index
    ∷ []

unfoldable pub zone_lines : Bool → Zone → List Lines
zone_lines on z = refusable on 3 z.index ∷ carry on 1 z.elevation ∷ []

unfoldable pub extent_lines : Bool → Extent → List Lines
extent_lines on e =
    refusable on 2 e.index
    ∷ carry (eqb e.index 1) 5 e.all
    ∷ carry (eqb e.index 2) 5 e.width
    ∷ carry (eqb e.index 2) 5 e.depth
    ∷ carry (eqb e.index 2) 5 e.height
    ∷ []

unfoldable pub screen_lines : Bool → Screen → List Lines
screen_lines on s = carry on 1 s.used ∷ carry (set? s.used) 3 s.factor ∷ carry (set? s.used) 2 s.depth ∷ []

-- the parts, five groups and b_object_snap
unfoldable pub render_lines : Bool → ℕ → Render → List Lines
render_lines begins moved n =
    carry (is_mixed n.status) 4 n.parts
    ∷ in_row (position_lines (has_position n.parts) begins moved n.position)
    ∷ in_row (distance_lines (has_position n.parts) n.distance)
    ∷ in_row (zone_lines (has_zone n.parts) n.zone)
    ∷ in_row (extent_lines (has_size n.parts) n.extent)
    ∷ in_row (screen_lines (has_screen n.parts) n.screen)
    ∷ carry (sends n.status) 1 n.snap
    ∷ []

-- what a block carries and a coded block does not hold: both statuses as sent, b_differential_position_specified, and the additional table data
pub record Unheld : Type 0 where
  pub basic : ℕ
  pub render : ℕ
  pub moved : ℕ
  pub additional : Lines

-- nothing is sent in object_basic_info; in object_render_info
abbrev pub basic_idle : Block → Bool
basic_idle b = eqb b.active 0

abbrev pub render_idle : Block → Bool
render_idle b = pick (basic_idle b) true (not (eqb b.class dynamic_class))

-- begins says that it is block 0
unfoldable pub block_lines : Bool → Block → Unheld → Lines
block_lines begins b u =
    carry true 1 (1 - b.active)
    ⊲ status_lines (basic_idle b) begins u.basic
    ⊲ in_row (basic_lines b.basic)
    ⊲ status_lines (render_idle b) begins u.render
    ⊲ in_row (render_lines begins u.moved b.render)
    ⊲ u.additional

-- of a record that may carry divergence; a coded entry has one number for the table and the code
unfoldable pub divergence_lines : Divergence → ℕ → ℕ → List Lines
divergence_lines d table code =
    carry true 1 d.used
    ∷ refusable (set? d.used) 2 d.mode
    ∷ carry (both (set? d.used) (eqb d.mode 0)) 2 table
    ∷ refusable (eqb d.mode 2) 6 code
    ∷ []

-- of a record whose b_ext_prec_pos is set
unfoldable pub precise_lines : Precise → List Lines
precise_lines p =
    carry true 1 1
    ∷ carry true 3 p.presence
    ∷ carry (has_x p.presence) 2 p.x
    ∷ carry (has_y p.presence) 2 p.y
    ∷ carry (has_z p.presence) 2 p.z
    ∷ []

-- ---- offsets: no width depends on what is not held

abbrev pub unsaid : Unheld
unsaid = record { basic = 0; render = 0; moved = 0; additional = no_more }

-- by the clause of a field
abbrev pub by_clause : Clause → ℕ → ℕ → ℕ → ℕ
by_clause info_block x y z = x
by_clause div_block x y z = y
by_clause prec_block x y z = z

-- how many bits of the clause stand before a field, 0 for a field of another clause: in object_info_block, obj_div_block and ext_prec_pos_block
unfoldable pub offset_in : Field → Bool → Block → ℕ
offset_in f begins b = by_clause (line_of f).clause (offset_at (line_of f).path (block_lines begins b unsaid)) 0 0

unfoldable pub offset_in_divergence : Field → Divergence → ℕ
offset_in_divergence f d = by_clause (line_of f).clause 0 (offset_at (line_of f).path (in_row (divergence_lines d 0 0))) 0

unfoldable pub offset_in_precise : Field → Precise → ℕ
offset_in_precise f p = by_clause (line_of f).clause 0 0 (offset_at (line_of f).path (in_row (precise_lines p)))

-- ---- as the code has them

-- the sum of the first n of some widths
unfoldable pub sum_to : ℕ → List ℕ → ℕ
sum_to zero ws = 0
sum_to (suc n) [] = 0
sum_to (suc n) (w ∷ ws) = w + sum_to n ws

-- how many bits of some lines stand before line n
abbrev pub span_to : ℕ → List Lines → ℕ
span_to n ls = sum_to n (map span ls)

-- the line of a field, by its clause and path; what the path does not go into is 0
abbrev pub spot_in : Clause → List ℕ → Spot
spot_in info_block path =
    pick (eqb (get_or path 0 0) 2) (InBasic (get_or path 1 0))
    (pick (eqb (get_or path 0 0) 4) (InRender (get_or path 1 0) (get_or path 2 0)) InBlock)
spot_in div_block path = InDivergence (get_or path 0 0)
spot_in prec_block path = InPrecise (get_or path 0 0)

abbrev pub spot_of : Field → Spot
spot_of f = spot_in (line_of f).clause (line_of f).path

-- r is the offset x, and small
pub record Offset (most x r : ℕ) : Type 0 where
  pub is : r ≡ x
  pub small : r ≤ most
