-- Coded fields are read back as they were written, group by group (5.5.6, 5.5.7, 5.5.10, 5.5.11).
use Rattle.std.specs.Prelude.{◌≡◌, refl, Bool, true, not, [], ◌++◌, ℕ, ◌≤◌, eqb}
use Rattle.std.proofs.Common.{sym, append_assoc, arith}
use Rattle.bits.specs.Language.{between}
use Rattle.bits.specs.Writes.{to_bits, only}
use Rattle.bits.specs.Back.{w-give, w-bits, w-bind, w_end, w_list, w_if}
use Rattle.bits.specs.Terms.{Writes}
use Rattle.oamd.specs.declared.Offset.{Offset}
use Rattle.oamd.specs.declared.BlockUpdate.{BlockUpdate}
use Rattle.oamd.specs.declared.Gain.{Gain}
use Rattle.oamd.specs.declared.Priority.{Priority}
use Rattle.oamd.specs.declared.Basic.{Basic}
use Rattle.oamd.specs.declared.Status.TheVariants.{Default, Full}
use Rattle.oamd.specs.declared.Position.TheVariants.{Absolute}
use Rattle.oamd.specs.declared.Distance.{Distance}
use Rattle.oamd.specs.declared.Zone.{Zone}
use Rattle.oamd.specs.declared.Extent.{Extent}
use Rattle.oamd.specs.declared.Screen.{Screen}
use Rattle.oamd.specs.Programme.{set?}
use Rattle.oamd.specs.Reserved.{SampleOffsetCode, ZoneConstraintsIdx, ObjectSizeIdx}
use Rattle.oamd.specs.Timing.{sample_offset, block_update_info}
use Rattle.oamd.specs.Block.{object_basic_info, coordinates, position, distance, zone, extent, screen}
use Rattle.form.specs.Valid.{between_if}
use Rattle.roundtrip.specs.Lemmas.Codable.{offset_codable, update_codable, gain_codable, priority_codable, distance_codable, extent_codable}
use Rattle.form.specs.Form.{offset_bits, update_bits, gain_bits, priority_bits, distance_bits, zone_bits, extent_bits, screen_bits}
use Rattle.form.specs.Lemmas.Tests.{halves, Ranged, in-range, always-ranged}
use Rattle.roundtrip.specs.Lemmas.Sent.{w-ranged}
use Rattle.roundtrip.specs.Lemmas.Unreserved.{w_under}

pub offset-writes : (o : Offset) → offset_codable o ≡ true → Writes sample_offset (offset_bits o) o
unfolding sample_offset offset_bits offset_codable
offset-writes o h =
    let a = halves (between 0 2 o.code) _ h in
    let b = halves (between_if (eqb o.code 1) 0 3 o.index) _ a.1 in
    let code = always-ranged 0 2 o.code a.0 in
    let low = (code.on refl).1 in
    w-bind (w_under SampleOffsetCode o.code (omega arith) (omega arith))
    (w-bind (w-ranged 2 (in-range _ _ _ _ b.0) (omega arith)) (w_end (w-ranged 5 (in-range _ _ _ _ b.1) (omega arith)) (w-give _)))

pub update-writes : (u : BlockUpdate) → update_codable u ≡ true → Writes block_update_info (update_bits u) u
unfolding block_update_info update_bits update_codable
update-writes u h =
    let a = halves (between 0 63 u.factor) _ h in
    let b = halves (between 0 3 u.code) _ a.1 in
    let c = halves (between_if (eqb u.code 3) 0 1 u.indexed) _ b.1 in
    let d = halves (between_if (set? u.indexed) 0 15 u.index) _ c.1 in
    w-bind (w-ranged 6 (always-ranged 0 63 u.factor a.0) (omega arith)) (w-bind (w-ranged 2 (always-ranged 0 3 u.code b.0) (omega arith))
    (w-bind (w-ranged 1 (in-range _ _ _ _ c.0) (omega arith)) (w-bind (w-ranged 4 (in-range _ _ _ _ d.0) (omega arith))
    (w_end (w-ranged 11 (in-range _ _ _ _ d.1) (omega arith)) (w-give _)))))

-- what is read of gain and priority where all is sent
abbrev pub full_basic : Gain → Priority → Basic
full_basic g p = record { status = Full; parts = 3; gain = g; priority = p }

pub basic-writes : (g : Gain) (p : Priority) → gain_codable g ≡ true → priority_codable p ≡ true
    → Writes (object_basic_info Full) (gain_bits g ++ priority_bits p) (full_basic g p)
unfolding object_basic_info gain_bits priority_bits gain_codable priority_codable
basic-writes g p h i =
    let a = halves (between 0 3 g.index) _ h in
    let b = halves (between 0 1 p.bydefault) _ i in
    w_list (sym (append_assoc (to_bits 2 g.index) _ _))
    (w-bind (w-give 3) (w-bind (w-ranged 2 (always-ranged 0 3 g.index a.0) (omega arith))
    (w-bind (w-ranged 6 (in-range _ _ _ _ a.1) (omega arith))
    (w-bind (w-ranged 1 (always-ranged 0 1 p.bydefault b.0) (omega arith)) (w_end (w-ranged 5 (in-range _ _ _ _ b.1) (omega arith))
    (w-give _))))))

-- and where nothing is
abbrev pub no_basic : Basic
no_basic = record { status = Default; parts = 0; gain = record { index = 0; bits = 0 }; priority = record { bydefault = 0; bits = 0 } }

pub no-basic-writes : Writes (object_basic_info Default) [] no_basic
unfolding object_basic_info
no-basic-writes = w-bind (w-give 0) (w-bind (w-give 0) (w-bind (w-give 0) (w-bind (w-give 0) (w-bind (w-give 0) (w-give _)))))

-- an absolute position
pub position-writes : (first : Bool) (x y sign z : ℕ) → x ≤ 63 → y ≤ 63 → sign ≤ 1 → z ≤ 15
    → Writes (position true first) (only (not first) (to_bits 1 0) ++ (to_bits 6 x ++ (to_bits 6 y ++ (to_bits 1 sign ++ to_bits 4 z)))) (Absolute x y sign z)
unfolding position coordinates
position-writes first x y sign z a b c d =
    w-bind (w_if (not first) 1 0 (λ q. omega arith) (λ q. refl))
    (w-bind (w-bits 6 x (omega arith)) (w-bind (w-bits 6 y (omega arith)) (w-bind (w-bits 1 sign (omega arith))
    (w_end (w-bits 4 z (omega arith)) (w-give _)))))

pub distance-writes : (d : Distance) → distance_codable d ≡ true → Writes (distance true) (distance_bits d) d
unfolding distance distance_bits distance_codable
distance-writes d h =
    let a = halves (between 0 1 d.given) _ h in
    let b = halves (between_if (set? d.given) 0 1 d.infinite) _ a.1 in
    w-bind (w-ranged 1 (always-ranged 0 1 d.given a.0) (omega arith)) (w-bind (w-ranged 1 (in-range _ _ _ _ b.0) (omega arith))
    (w_end (w-ranged 4 (in-range _ _ _ _ b.1) (omega arith)) (w-give _)))

pub zone-writes : (z : Zone) → z.index ≤ 5 → z.elevation ≤ 1 → Writes (zone true) (zone_bits z) z
unfolding zone zone_bits
zone-writes z a b =
    w-bind (w_under ZoneConstraintsIdx z.index (omega arith) (omega arith)) (w_end (w-bits 1 z.elevation (omega arith)) (w-give _))

pub extent-writes : (e : Extent) → extent_codable e ≡ true → Writes (extent true) (extent_bits e) e
unfolding extent extent_bits extent_codable
extent-writes e h =
    let a = halves (between 0 2 e.index) _ h in
    let b = halves (between_if (eqb e.index 1) 0 31 e.all) _ a.1 in
    let c = halves (between_if (eqb e.index 2) 0 31 e.width) _ b.1 in
    let d = halves (between_if (eqb e.index 2) 0 31 e.depth) _ c.1 in
    let low = ((always-ranged 0 2 e.index a.0).on refl).1 in
    w-bind (w_under ObjectSizeIdx e.index (omega arith) (omega arith))
    (w-bind (w-ranged 5 (in-range _ _ _ _ b.0) (omega arith)) (w-bind (w-ranged 5 (in-range _ _ _ _ c.0) (omega arith))
    (w-bind (w-ranged 5 (in-range _ _ _ _ d.0) (omega arith)) (w_end (w-ranged 5 (in-range _ _ _ _ d.1) (omega arith)) (w-give _)))))

pub screen-writes : (s : Screen) → Ranged true 0 1 0 s.used → Ranged (set? s.used) 0 7 0 s.factor → Ranged (set? s.used) 0 3 0 s.depth
    → Writes (screen true) (screen_bits s) s
unfolding screen screen_bits
screen-writes s a b c = w-bind (w-ranged 1 a (omega arith)) (w-bind (w-ranged 3 b (omega arith)) (w_end (w-ranged 2 c (omega arith)) (w-give _)))
