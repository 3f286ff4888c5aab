-- The coded fields of a valid value are codable, and they mean that value.
use Rattle.std.specs.Prelude.{◌≡◌, refl, Bool, true, false, ℕ, ◌/◌, ◌%◌, ◌≤◌, ◌<◌, leb, ltb, eqb}
use Rattle.std.proofs.Common.{sym, ◌∙◌, arith, leb-true, eqb-true, le-ltb}
use Rattle.bits.specs.Language.{pick}
use Rattle.oamd.specs.declared.Update.{Update}
use Rattle.oamd.specs.declared.Volume.{Volume}
use Rattle.oamd.specs.Timing.{samples, offset_of, ramp_of, start_of}
use Rattle.oamd.specs.Meaning.{gain_of, priority_of, height_of, upright, across, distance_of, volume_of}
use Rattle.form.specs.Valid.{between_if, ◌and◌}
use Rattle.form.specs.Coded.{coded_offset, ramp_code, coded_update, gain_index, coded_gain, coded_priority, z_sign, z_bits, coded_distance, size_index, coded_extent}
use Rattle.roundtrip.specs.Lemmas.Codable.{offset_codable, update_codable, gain_codable, priority_codable, distance_codable, extent_codable}
use Rattle.form.specs.Lemmas.Tests.{halves, whole, by_eq, by-test, always, is-ranged, below}

-- ---- one test of all values, where there are few

offsets : (offset : ℕ) → offset < 32 → (offset_codable (coded_offset offset) and eqb (offset_of (coded_offset offset)) offset) ≡ true
unfolding offset_codable coded_offset offset_of between_if
offsets = below 32 (λ offset. offset_codable (coded_offset offset) and eqb (offset_of (coded_offset offset)) offset) refl

-- the update of a start and a ramp
abbrev pub update_at : ℕ → ℕ → Update
update_at start ramp = record { start = samples start; ramp = samples ramp }

ramps : (ramp : ℕ) → ramp < 2049 → (update_codable (coded_update (update_at 0 ramp)) and eqb (ramp_of (coded_update (update_at 0 ramp))) ramp) ≡ true
unfolding update_codable coded_update ramp_code ramp_of between_if
ramps = below 2049 (λ ramp. update_codable (coded_update (update_at 0 ramp)) and eqb (ramp_of (coded_update (update_at 0 ramp))) ramp) refl

priorities : (priority : ℕ) → priority < 33 → (priority_codable (coded_priority priority) and eqb (priority_of (coded_priority priority)) priority) ≡ true
unfolding priority_codable coded_priority priority_of between_if
priorities = below 33 (λ priority. priority_codable (coded_priority priority) and eqb (priority_of (coded_priority priority)) priority) refl

distances : (distance : ℕ) → distance < 18 → (distance_codable (coded_distance distance) and eqb (distance_of (coded_distance distance)) distance) ≡ true
unfolding distance_codable coded_distance distance_of between_if
distances = below 18 (λ distance. distance_codable (coded_distance distance) and eqb (distance_of (coded_distance distance)) distance) refl

heights : (z : ℕ) → z < 80 → (pick (ltb z 49) true (leb (z_sign z) 1 and leb (z_bits z) 15 and eqb (upright (height_of (z_sign z) (z_bits z))) z)) ≡ true
unfolding z_sign z_bits
heights = below 80 (λ z. pick (ltb z 49) true (leb (z_sign z) 1 and leb (z_bits z) 15 and eqb (upright (height_of (z_sign z) (z_bits z))) z)) refl

gains : (gain : ℕ) → gain < 66 → (gain_codable (coded_gain gain) and leb (gain_index gain) 2 and eqb (gain_of (coded_gain gain) 0) gain) ≡ true
unfolding gain_codable coded_gain gain_index gain_of between_if
gains = below 66 (λ gain. gain_codable (coded_gain gain) and leb (gain_index gain) 2 and eqb (gain_of (coded_gain gain) 0) gain) refl

-- ---- what the tests say

pub offset-codable : (offset : ℕ) → offset < 32 → offset_codable (coded_offset offset) ≡ true
offset-codable offset h = (halves (offset_codable (coded_offset offset)) _ (offsets offset h)).0

pub offset-means : (offset : ℕ) → offset < 32 → offset_of (coded_offset offset) ≡ offset
offset-means offset h = eqb-true _ _ (halves (offset_codable (coded_offset offset)) _ (offsets offset h)).1

pub ramp_codable : (ramp : ℕ) → ramp ≤ 2048 → update_codable (coded_update (update_at 0 ramp)) ≡ true
ramp_codable ramp h = (halves (update_codable (coded_update (update_at 0 ramp))) _ (ramps ramp (omega arith))).0

pub ramp-means : (u : Update) → u.ramp.0 ≤ 2048 → ramp_of (coded_update u) ≡ u.ramp.0
unfolding coded_update ramp_of
ramp-means u h = eqb-true _ _ (halves (update_codable (coded_update (update_at 0 u.ramp.0))) _ (ramps u.ramp.0 (omega arith))).1

pub start-means : (start offset : ℕ) → start % 32 ≡ offset → start_of offset (start / 32) ≡ start
unfolding start_of
start-means start offset h = omega arith

pub priority-codable : (priority : ℕ) → priority ≤ 32 → priority_codable (coded_priority priority) ≡ true
priority-codable priority h = (halves (priority_codable (coded_priority priority)) _ (priorities priority (omega arith))).0

pub priority-means : (priority : ℕ) → priority ≤ 32 → priority_of (coded_priority priority) ≡ priority
priority-means priority h = eqb-true _ _ (halves (priority_codable (coded_priority priority)) _ (priorities priority (omega arith))).1

pub distance-codable : (distance : ℕ) → distance ≤ 17 → distance_codable (coded_distance distance) ≡ true
distance-codable distance h = (halves (distance_codable (coded_distance distance)) _ (distances distance (omega arith))).0

pub distance-means : (distance : ℕ) → distance ≤ 17 → distance_of (coded_distance distance) ≡ distance
distance-means distance h = eqb-true _ _ (halves (distance_codable (coded_distance distance)) _ (distances distance (omega arith))).1

-- z's sign is a flag, its size has 4 bits, and they mean z
pub z-means : (z : ℕ) → 49 ≤ z → z ≤ 79 → (z_sign z ≤ 1) × (z_bits z ≤ 15) × (upright (height_of (z_sign z) (z_bits z)) ≡ z)
z-means z l h =
    let x = halves (leb (z_sign z) 1) _ (rw (le-ltb z 49 l) at (heights z (omega arith))) in
    let y = halves (leb (z_bits z) 15) _ x.1 in
    (leb-true _ _ x.0, leb-true _ _ y.0, eqb-true _ _ y.1)

pub across-means : (v : ℕ) → v ≤ 62 → across v ≡ v
across-means v h = rw (le-ltb v 0 (omega arith), le-ltb 62 v h)

pub gain-codable : (gain : ℕ) → gain ≤ 65 → gain_codable (coded_gain gain) ≡ true
gain-codable gain h = (halves (gain_codable (coded_gain gain)) _ (gains gain (omega arith))).0

-- whatever the gain of the object before
pub gain-means : (gain above : ℕ) → gain ≤ 65 → gain_of (coded_gain gain) above ≡ gain
unfolding gain_of coded_gain
gain-means gain above h =
    let x = halves (leb (gain_index gain) 2) _ (halves (gain_codable (coded_gain gain)) _ (gains gain (omega arith))).1 in
    let low : gain_index gain ≤ 2 = leb-true _ _ x.0 in
    let means : gain_of (coded_gain gain) 0 ≡ gain = eqb-true _ _ x.1 in
    by_eq (gain_index gain) 0
    (λ e. rw e (rw e at means))
    (λ n. by_eq (gain_index gain) 1
    (λ e. rw e (rw e at means))
    (λ m. let e : gain_index gain ≡ 2 = omega arith in rw e (rw e at means)))

-- the size of an extent is one of three
pub size-index : (v : Volume) → size_index v ≤ 2
unfolding size_index
size-index v = by-test (eqb v.width v.depth and eqb v.width v.height)
    (λ e. by-test (eqb v.width 0) (λ f. rw (e, f) (omega arith)) (λ f. rw (e, f) (omega arith)))
    (λ e. rw e (omega arith))

picked_le : (t : Bool) (n m : ℕ) → n ≤ m → pick t n 0 ≤ m
picked_le true n m h = h
picked_le false n m h = omega arith

picked-off : (t : Bool) (n : ℕ) → t ≡ false → pick t n 0 ≡ 0
picked-off t n e = rw e

pub extent-codable : (v : Volume) → v.width ≤ 31 → v.depth ≤ 31 → v.height ≤ 31 → extent_codable (coded_extent v) ≡ true
unfolding extent_codable coded_extent
extent-codable v a b c =
    whole _ _ (always 0 2 (size_index v) (omega arith) (size-index v))
    (whole _ _ (part (eqb (size_index v) 1) v.width a)
    (whole _ _ (part (eqb (size_index v) 2) v.width a)
    (whole _ _ (part (eqb (size_index v) 2) v.depth b)
    (part (eqb (size_index v) 2) v.height c))))
  where
    part : (t : Bool) (n : ℕ) → n ≤ 31 → between_if t 0 31 (pick t n 0) ≡ true
    part t n l = is-ranged t 0 31 (pick t n 0) (λ q. omega arith) (λ q. picked_le t n 31 l) (λ q. picked-off t n q)

pub extent-means : (v : Volume) → volume_of (coded_extent v) ≡ v
unfolding volume_of coded_extent size_index
extent-means v = by-test (eqb v.width v.depth and eqb v.width v.height)
    (λ e.
    let x = halves (eqb v.width v.depth) (eqb v.width v.height) e in
    let d : v.width ≡ v.depth = eqb-true _ _ x.0 in
    let h : v.width ≡ v.height = eqb-true _ _ x.1 in
    by-test (eqb v.width 0)
    (λ f.
    let w : 0 ≡ v.width = sym (eqb-true _ _ f) in
    let d' : 0 ≡ v.depth = w ∙ d in
    let h' : 0 ≡ v.height = w ∙ h in
    rw (e, f) (λ i. record { width = w i; depth = d' i; height = h' i }))
    (λ f. rw (e, f) (λ i. record { width = v.width; depth = d i; height = h i })))
    (λ e. rw e refl)
