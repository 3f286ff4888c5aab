-- The written form (docs/DECISIONS.md, "The written form"): the bits of valid tables, clause by clause in the order in which they are read, and the bytes that hold them.
use Rattle.std.specs.Prelude.{Bool, true, false, not, List, [], ◌∷◌, ◌++◌, ℕ, zero, suc, ◌+◌, ◌-◌, ◌*◌, ◌/◌, ◌%◌, leb, ltb, eqb, length, replicate, take, drop}
use Rattle.bits.specs.Language.{pick, both, as_flag}
use Rattle.bits.specs.Writes.{to_bits, only, each_bits, to_bytes}
use Rattle.oamd.specs.declared.Bed.{Bed}
use Rattle.oamd.specs.declared.Programme.{Programme}
use Rattle.oamd.specs.declared.Offset.{Offset}
use Rattle.oamd.specs.declared.BlockUpdate.{BlockUpdate}
use Rattle.oamd.specs.declared.Timing.{Timing}
use Rattle.oamd.specs.declared.Gain.{Gain}
use Rattle.oamd.specs.declared.Priority.{Priority}
use Rattle.oamd.specs.declared.Location.{Location}
use Rattle.oamd.specs.declared.Distance.{Distance}
use Rattle.oamd.specs.declared.Zone.{Zone}
use Rattle.oamd.specs.declared.Extent.{Extent}
use Rattle.oamd.specs.declared.Screen.{Screen}
use Rattle.oamd.specs.declared.Scene.{Scene}
use Rattle.oamd.specs.declared.Divergence.{Divergence}
use Rattle.oamd.specs.declared.Precise.{Precise}
use Rattle.oamd.specs.declared.TrimConfig.{TrimConfig}
use Rattle.oamd.specs.Programme.{set?, clear?, has_beds, has_isf, has_dynamic}
use Rattle.oamd.specs.Extended.{has_x, has_y, has_z}
use Rattle.oamd.specs.Trim.{has_centre, has_surround, has_height, has_tb, has_lis, TrimTable}
use Rattle.oamd.specs.Record.{Record, carries}
use Rattle.oamd.specs.Payload.{Tables}
use Rattle.form.specs.Valid.{offset_in_samples}
use Rattle.form.specs.Coded.{coded_offset, coded_update, coded_gain, coded_priority, z_sign, z_bits, coded_distance, coded_extent}

-- ---- 5.5.2 and 5.5.3: what stands before the elements

-- a count in 5 bits, and what it has above 31 in 7 more
unfoldable pub count_bits : ℕ → List ℕ
count_bits n = to_bits 5 (pick (ltb n 31) n 31) ++ only (not (ltb n 31)) (to_bits 7 (n - 31))

unfoldable pub bed_bits : Bed → List ℕ
bed_bits b =
    to_bits 1 b.lfeonly
    ++ (only (clear? b.lfeonly) (to_bits 1 b.standard)
    ++ (only (set? b.standard) (to_bits 10 b.assignment)
    ++ only (both (clear? b.lfeonly) (clear? b.standard)) (to_bits 17 b.assignment)))

unfoldable pub beds_bits : Programme → List ℕ
beds_bits p =
    only (has_beds p.content) (to_bits 1 p.distribute)
    ++ (only (has_beds p.content) (to_bits 1 p.multiple)
    ++ (only (set? p.multiple) (to_bits 3 p.instances)
    ++ each_bits (λ i b. bed_bits b) 0 (take p.bedcount p.beds)))

unfoldable pub assignment_bits : Programme → List ℕ
assignment_bits p =
    to_bits 1 p.dynonly
    ++ (only (set? p.dynonly) (to_bits 1 p.lfe)
    ++ (only (clear? p.dynonly) (to_bits 4 p.content)
    ++ (beds_bits p
    ++ (only (has_isf p.content) (to_bits 3 p.isf)
    ++ only (has_dynamic p.content) (count_bits p.dynamics)))))

-- version 0, and no alternate ids
unfoldable pub header_bits : Programme → List ℕ
header_bits p = to_bits 2 0 ++ (count_bits (p.objects - 1) ++ (assignment_bits p ++ to_bits 1 0))

-- ---- 5.5.6 and 5.5.7: the timing

unfoldable pub offset_bits : Offset → List ℕ
offset_bits o = to_bits 2 o.code ++ (only (eqb o.code 1) (to_bits 2 o.index) ++ only (eqb o.code 2) (to_bits 5 o.bits))

unfoldable pub update_bits : BlockUpdate → List ℕ
update_bits u =
    to_bits 6 u.factor
    ++ (to_bits 2 u.code
    ++ (only (eqb u.code 3) (to_bits 1 u.indexed)
    ++ (only (set? u.indexed) (to_bits 4 u.index)
    ++ only (both (eqb u.code 3) (clear? u.indexed)) (to_bits 11 u.bits))))

unfoldable pub timing_bits : Timing → List ℕ
timing_bits t =
    offset_bits (coded_offset (offset_in_samples t))
    ++ (to_bits 3 (t.blocks - 1) ++ each_bits (λ i u. update_bits (coded_update u)) 0 (take t.blocks t.updates))

-- ---- 5.5.9 to 5.5.11: a block of an object

-- full status, where the syntax lets one choose: in a later block of a group that is sent
unfoldable pub status_bits : Bool → Bool → List ℕ
status_bits sent first = only (both sent (not first)) (to_bits 2 1)

unfoldable pub gain_bits : Gain → List ℕ
gain_bits g = to_bits 2 g.index ++ only (eqb g.index 2) (to_bits 6 g.bits)

unfoldable pub priority_bits : Priority → List ℕ
priority_bits p = to_bits 1 p.bydefault ++ only (clear? p.bydefault) (to_bits 5 p.bits)

-- an absolute position; in a later block it says that it is one
unfoldable pub position_bits : Bool → Location → List ℕ
position_bits first p =
    only (not first) (to_bits 1 0) ++ (to_bits 6 p.x ++ (to_bits 6 p.y ++ (to_bits 1 (z_sign p.z) ++ to_bits 4 (z_bits p.z))))

unfoldable pub distance_bits : Distance → List ℕ
distance_bits d =
    to_bits 1 d.given
    ++ (only (set? d.given) (to_bits 1 d.infinite) ++ only (both (set? d.given) (clear? d.infinite)) (to_bits 4 d.index))

unfoldable pub zone_bits : Zone → List ℕ
zone_bits z = to_bits 3 z.index ++ to_bits 1 z.elevation

unfoldable pub extent_bits : Extent → List ℕ
extent_bits e =
    to_bits 2 e.index
    ++ (only (eqb e.index 1) (to_bits 5 e.all)
    ++ (only (eqb e.index 2) (to_bits 5 e.width)
    ++ (only (eqb e.index 2) (to_bits 5 e.depth) ++ only (eqb e.index 2) (to_bits 5 e.height))))

unfoldable pub screen_bits : Screen → List ℕ
screen_bits s = to_bits 1 s.used ++ (only (set? s.used) (to_bits 3 s.factor) ++ only (set? s.used) (to_bits 2 s.depth))

unfoldable pub basic_bits : Scene → List ℕ
basic_bits s = gain_bits (coded_gain s.gain) ++ priority_bits (coded_priority s.priority)

unfoldable pub render_bits : Bool → Scene → List ℕ
render_bits first s =
    position_bits first s.location
    ++ (distance_bits (coded_distance s.location.distance)
    ++ (zone_bits s.zone ++ (extent_bits (coded_extent s.volume) ++ (screen_bits s.screen ++ to_bits 1 s.snap))))

-- no additional table data
unfoldable pub block_bits : Bool → Scene → List ℕ
block_bits first s =
    to_bits 1 (1 - s.active)
    ++ (status_bits (set? s.active) first
    ++ (only (set? s.active) (basic_bits s)
    ++ (status_bits (carries s) first ++ (only (carries s) (render_bits first s) ++ to_bits 1 0))))

-- ---- 5.5.5 and 5.5.8: the object element

-- the records of n objects, one object after the other
unfoldable pub by_object : ℕ → ℕ → List Record → List (List Record)
by_object blocks zero rs = []
by_object blocks (suc n) rs = take blocks rs ∷ by_object blocks n (drop blocks rs)

unfoldable pub object_data_bits : List Record → List ℕ
object_data_bits rs = each_bits (λ blk r. block_bits (eqb blk 0) r.scene) 0 rs

-- the flag says that no reserved data is there
unfoldable pub object_element_bits : Tables → List ℕ
object_element_bits t =
    timing_bits t.timing
    ++ (to_bits 1 1 ++ each_bits (λ j rs. object_data_bits rs) 0 (by_object t.timing.blocks t.programme.objects t.records))

-- ---- 5.5.13 to 5.5.15: the extended object element

unfoldable pub divergence_bits : Bool → Divergence → List ℕ
divergence_bits sent d =
    only sent (to_bits 1 d.used)
    ++ (only (set? d.used) (to_bits 2 d.mode)
    ++ (only (both (set? d.used) (eqb d.mode 0)) (to_bits 2 d.value) ++ only (eqb d.mode 2) (to_bits 6 d.value)))

-- nothing but the flag where no presence bit is set
unfoldable pub precise_bits : Bool → Precise → List ℕ
precise_bits sent p =
    only sent (to_bits 1 (as_flag (ltb 0 p.presence)))
    ++ (only (ltb 0 p.presence) (to_bits 3 p.presence)
    ++ (only (has_x p.presence) (to_bits 2 p.x)
    ++ (only (has_y p.presence) (to_bits 2 p.y) ++ only (has_z p.presence) (to_bits 2 p.z))))

-- some record passes the test
unfoldable pub any : (Record → Bool) → List Record → Bool
any f [] = false
any f (r ∷ rs) = pick (f r) true (any f rs)

-- of a valid record: bytes 17 to 19 are not all 0
abbrev pub diverges : Record → Bool
diverges r = set? r.divergence.used

-- and bytes 20 to 23
abbrev pub refines : Record → Bool
refines r = ltb 0 r.precise.presence

-- each of its two groups only where some record needs it
unfoldable pub extended_element_bits : List Record → List ℕ
extended_element_bits rs =
    to_bits 1 (as_flag (any diverges rs))
    ++ (only (any diverges rs) (each_bits (λ i r. divergence_bits (carries r.scene) r.divergence) 0 rs)
    ++ (to_bits 1 (as_flag (any refines rs))
    ++ only (any refines rs) (each_bits (λ i r. precise_bits (carries r.scene) r.precise) 0 rs)))

-- ---- 5.5.12: the trim element

unfoldable pub config_bits : TrimConfig → List ℕ
config_bits c =
    to_bits 1 c.bydefault
    ++ (only (clear? c.bydefault) (to_bits 1 c.disabled)
    ++ (only (both (clear? c.bydefault) (clear? c.disabled)) (to_bits 5 c.presence)
    ++ (only (has_centre c.presence) (to_bits 4 c.centre)
    ++ (only (has_surround c.presence) (to_bits 4 c.surround)
    ++ (only (has_height c.presence) (to_bits 4 c.height)
    ++ (only (has_tb c.presence) (to_bits 1 c.tbsign)
    ++ (only (has_tb c.presence) (to_bits 4 c.tbamount)
    ++ (only (has_lis c.presence) (to_bits 1 c.lissign) ++ only (has_lis c.presence) (to_bits 4 c.lisamount)))))))))

-- the two reserved bits are 0
unfoldable pub trim_element_bits : TrimTable → List ℕ
trim_element_bits t =
    to_bits 2 t.warp
    ++ (to_bits 2 0
    ++ (to_bits 2 t.mode
    ++ (only (eqb t.mode 2) (each_bits (λ cfg c. config_bits c) 0 t.configs)
    ++ (to_bits 1 t.per-object ++ only (set? t.per-object) (each_bits (λ obj x. to_bits 1 x) 0 t.disabled)))))

-- ---- 5.5.1 and 5.5.4: elements

unfoldable pub group_bits : ℕ → ℕ → List ℕ
group_bits digit more = to_bits 4 digit ++ to_bits 1 more

-- A size below 69,904 in the fewest groups: behind the first, each stands for 16 more, so what the groups before the last one give is v / 16 - 1
unfoldable pub size_bits : ℕ → List ℕ
size_bits v =
    only (leb 4368 v) (group_bits (((v / 16 - 1) / 16 - 1) / 16 - 1) 1)
    ++ (only (leb 272 v) (group_bits (((v / 16 - 1) / 16 - 1) % 16) 1)
    ++ (only (leb 16 v) (group_bits ((v / 16 - 1) % 16) 1) ++ group_bits (v % 16) 0))

-- the size of an element with n bits inside: one less than the bytes that hold them
unfoldable pub size_for : ℕ → ℕ
size_for n = (n + 7) / 8 - 1

-- an element with n bits inside: id, size, and inside it the discard flag 0, the fields, and zeros up to its end
unfoldable pub framed_bits : ℕ → ℕ → List ℕ → List ℕ
framed_bits id n fields = to_bits 4 id ++ (size_bits (size_for n) ++ ((to_bits 1 0 ++ fields) ++ replicate (8 * (size_for n + 1) - n) 0))

unfoldable pub element_bits : ℕ → List ℕ → List ℕ
element_bits id fields = framed_bits id (1 + length fields) fields

-- ---- 5.5.2: the payload

-- an object element if there are blocks
abbrev pub has_object : Tables → Bool
has_object t = ltb 0 t.timing.blocks

-- an extended element if some record needs it
unfoldable pub has_extended : List Record → Bool
has_extended rs = pick (any diverges rs) true (any refines rs)

-- a trim element if the trim table has it
abbrev pub has_trim : TrimTable → Bool
has_trim t = set? t.present

unfoldable pub form_bits : Tables → List ℕ
form_bits t =
    header_bits t.programme
    ++ (to_bits 4 (as_flag (has_object t) + as_flag (has_extended t.records) + as_flag (has_trim t.trim))
    ++ (only (has_object t) (element_bits 1 (object_element_bits t))
    ++ (only (has_extended t.records) (element_bits 5 (extended_element_bits t.records))
    ++ only (has_trim t.trim) (element_bits 2 (trim_element_bits t.trim)))))

unfoldable pub form : Tables → List ℕ
form t = to_bytes (form_bits t)
