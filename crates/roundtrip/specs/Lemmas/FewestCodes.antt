-- Of all codes with one meaning the form's comes first: fewer bits, and of equal length the smaller number. One computed test of all codes for each group.
use Rattle.std.specs.Prelude.{◌≡◌, refl, Bool, true, false, not, ◌++◌, ℕ, suc, ◌+◌, ◌*◌, ◌/◌, ◌≤◌, ◌<◌, eqb}
use Rattle.std.proofs.Common.{sym, subst, arith, ne_eqb, eq-eqb}
use Rattle.std.proofs.lemmas.Bool.{false≢true}
use Rattle.bits.specs.Language.{pick, number, between}
use Rattle.bits.specs.Writes.{to_bits, First}
use Rattle.bits.specs.First.{first_of, first_same, first-append, first-cancel}
use Rattle.bits.specs.Terms.{first?}
use Rattle.oamd.specs.declared.Offset.{Offset}
use Rattle.oamd.specs.declared.BlockUpdate.{BlockUpdate}
use Rattle.oamd.specs.declared.Gain.{Gain}
use Rattle.oamd.specs.declared.Priority.{Priority}
use Rattle.oamd.specs.declared.Distance.{Distance}
use Rattle.oamd.specs.declared.Extent.{Extent}
use Rattle.oamd.specs.Programme.{set?, clear?}
use Rattle.oamd.specs.Timing.{offset_of, ramp_of, start_of, update_of}
use Rattle.oamd.specs.Meaning.{gain_of, priority_of, across, upright, height_of, distance_of, volume_of}
use Rattle.form.specs.Valid.{between_if, ◌and◌}
use Rattle.form.specs.Coded.{coded_offset, ramp_code, coded_update, gain_index, coded_gain, coded_priority, z_sign, z_bits, coded_distance, size_index, coded_extent}
use Rattle.roundtrip.specs.Lemmas.Codable.{offset_codable, update_codable, gain_codable, priority_codable, distance_codable, extent_codable}
use Rattle.form.specs.Form.{offset_bits, update_bits, gain_bits, priority_bits, distance_bits, extent_bits}
use Rattle.form.specs.Lemmas.Tests.{halves, by-test, by_eq, by_flag, in-range, always-ranged, all_below, below}
use Rattle.roundtrip.specs.Lemmas.Means.{update_at}

-- the second test holds where the first does
abbrev implies : Bool → Bool → Bool
implies a b = pick a b true

implied : (a b : Bool) → implies a b ≡ true → a ≡ true → b ≡ true
implied true b h q = h
implied false b h q = absurd (false≢true q)

-- a field that is carried or 0 is in its range
most : (carried : Bool) (high v : ℕ) → between_if carried 0 high v ≡ true → v < suc high
most carried high v h =
    let r = in-range carried 0 high v h in
    by-test carried (λ q. let x = r.on q in omega arith) (λ q. let x = r.off q in omega arith)

most-always : (high v : ℕ) → between 0 high v ≡ true → v < suc high
most-always high v h = let x = (always-ranged 0 high v h).on refl in omega arith

-- a test of two or three numbers
abbrev all_below2 : ℕ → ℕ → (ℕ → ℕ → Bool) → Bool
all_below2 m n f = all_below m (λ a. all_below n (f a))

below2 : (m n : ℕ) (f : ℕ → ℕ → Bool) → all_below2 m n f ≡ true → (a b : ℕ) → a < m → b < n → f a b ≡ true
below2 m n f h a b i j = below n (f a) (below m (λ a. all_below n (f a)) h a i) b j

abbrev all_below3 : ℕ → ℕ → ℕ → (ℕ → ℕ → ℕ → Bool) → Bool
all_below3 l m n f = all_below l (λ a. all_below2 m n (f a))

below3 : (l m n : ℕ) (f : ℕ → ℕ → ℕ → Bool) → all_below3 l m n f ≡ true → (a b c : ℕ) → a < l → b < m → c < n → f a b c ≡ true
below3 l m n f h a b c i j k = below2 m n (f a) (below l (λ a. all_below2 m n (f a)) h a i) b c j k

-- ---- the gain, but for index 3 (Tables 18 and 19)

abbrev gain_code : ℕ → ℕ → Gain
gain_code index bits = record { index = index; bits = bits }

gain_test : ℕ → ℕ → Bool
gain_test index bits = implies (gain_codable (gain_code index bits)) (first? (gain_bits (coded_gain (gain_of (gain_code index bits) 0)))
    (gain_bits (gain_code index bits)))

gains : all_below2 3 64 gain_test ≡ true
unfolding gain_test gain_codable gain_bits coded_gain gain_index gain_of to_bits number between_if
gains = refl

-- what index 3 does not give is not the object before's
own-gain : (g : Gain) (above : ℕ) → g.index ≤ 2 → gain_of g above ≡ gain_of g 0
unfolding gain_of
own-gain g above h = by_eq g.index 0
    (λ e. rw e refl)
    (λ a. by_eq g.index 1 (λ e. rw e refl) (λ b. let e : g.index ≡ 2 = omega arith in rw e refl))

pub gain_least : (g : Gain) (above : ℕ) → gain_codable g ≡ true → g.index ≤ 2 → First (gain_bits (coded_gain (gain_of g above))) (gain_bits g)
unfolding gain_test gain_codable
gain_least g above h low =
    let bits = most _ 63 g.bits (halves (between 0 3 g.index) _ h).1 in
    rw (own-gain g above low)
    (first_of _ _ (implied (gain_codable g) _ (below2 3 64 gain_test gains g.index g.bits (omega arith) bits) h))

-- ---- the priority (5.6.1.3)

abbrev priority_code : ℕ → ℕ → Priority
priority_code bydefault bits = record { bydefault = bydefault; bits = bits }

priority_test : ℕ → ℕ → Bool
priority_test bydefault bits =
    implies (priority_codable (priority_code bydefault bits))
    (first? (priority_bits (coded_priority (priority_of (priority_code bydefault bits)))) (priority_bits (priority_code bydefault bits)))

priorities : all_below2 2 32 priority_test ≡ true
unfolding priority_test priority_codable priority_bits coded_priority priority_of to_bits number between_if
priorities = refl

pub priority_least : (p : Priority) → priority_codable p ≡ true → First (priority_bits (coded_priority (priority_of p))) (priority_bits p)
unfolding priority_test priority_codable
priority_least p h =
    let x = halves (between 0 1 p.bydefault) _ h in
    first_of _ _ (implied (priority_codable p) _ (below2 2 32 priority_test priorities p.bydefault p.bits (most-always 1 _ x.0)
    (most _ 31 p.bits x.1)) h)

-- ---- the distance (5.6.1.1.15 to 5.6.1.1.17)

abbrev distance_code : ℕ → ℕ → ℕ → Distance
distance_code given infinite index = record { given = given; infinite = infinite; index = index }

distance_test : ℕ → ℕ → ℕ → Bool
distance_test given infinite index =
    implies (distance_codable (distance_code given infinite index))
    (first? (distance_bits (coded_distance (distance_of (distance_code given infinite index)))) (distance_bits (distance_code given infinite index)))

distances : all_below3 2 2 16 distance_test ≡ true
unfolding distance_test distance_codable distance_bits coded_distance distance_of to_bits number between_if
distances = refl

pub distance_least : (d : Distance) → distance_codable d ≡ true → First (distance_bits (coded_distance (distance_of d))) (distance_bits d)
unfolding distance_test distance_codable
distance_least d h =
    let x = halves (between 0 1 d.given) _ h in
    let y = halves (between_if (set? d.given) 0 1 d.infinite) _ x.1 in
    first_of _ _ (implied (distance_codable d) _
    (below3 2 2 16 distance_test distances d.given d.infinite d.index (most-always 1 _ x.0) (most _ 1 d.infinite y.0)
    (most _ 15 d.index y.1)) h)

-- ---- the sample offset, but for code 1 (Table 22)

abbrev offset_code : ℕ → ℕ → ℕ → Offset
offset_code code index bits = record { code = code; index = index; bits = bits }

offset_test : ℕ → ℕ → ℕ → Bool
offset_test code index bits =
    implies (offset_codable (offset_code code index bits)) (implies (not (eqb code 1))
    (first? (offset_bits (coded_offset (offset_of (offset_code code index bits)))) (offset_bits (offset_code code index bits))))

offsets : all_below3 3 4 32 offset_test ≡ true
unfolding offset_test offset_codable offset_bits coded_offset offset_of to_bits number between_if
offsets = refl

pub offset_least : (o : Offset) → offset_codable o ≡ true → (o.code ≡ 1 → ⊥) → First (offset_bits (coded_offset (offset_of o))) (offset_bits o)
unfolding offset_test offset_codable
offset_least o h n =
    let x = halves (between 0 2 o.code) _ h in
    let y = halves (between_if (eqb o.code 1) 0 3 o.index) _ x.1 in
    let test = below3 3 4 32 offset_test offsets o.code o.index o.bits (most-always 2 _ x.0) (most _ 3 o.index y.0)
    (most _ 31 o.bits y.1) in
    first_of _ _ (implied (not (eqb o.code 1)) _ (implied (offset_codable o) _ test h) (rw (ne_eqb o.code 1 n) refl))

-- ---- the ramp, and of the indices only 15 (Tables 24 and 25)

abbrev ramp_coded : ℕ → ℕ → ℕ → ℕ → BlockUpdate
ramp_coded code indexed index bits = record { bits = bits; factor = 0; code = code; indexed = indexed; index = index }

ramp_test : ℕ → ℕ → ℕ → ℕ → Bool
ramp_test code indexed index bits =
    first? (update_bits (coded_update (update_at 0 (ramp_of (ramp_coded code indexed index bits))))) (update_bits (ramp_coded code indexed index bits))

ramps : (all_below 3 (λ code. ramp_test code 0 0 0) and ramp_test 3 1 15 0 and all_below 2048 (λ bits. ramp_test 3 0 0 bits)) ≡ true
unfolding ramp_test update_bits coded_update ramp_code ramp_of to_bits number
ramps = refl

ramp_least : (code indexed index bits : ℕ) → code < 4 → between_if (eqb code 3) 0 1 indexed ≡ true → between_if (set? indexed) 0 15 index ≡ true
    → between_if (eqb code 3 and clear? indexed) 0 2047 bits ≡ true → (indexed ≡ 1 → index ≡ 15) → ramp_test code indexed index bits ≡ true
ramp_least code indexed index bits c i x b only-15 =
    let t = halves (all_below 3 (λ code. ramp_test code 0 0 0)) _ ramps in
    let u = halves (ramp_test 3 1 15 0) _ t.1 in
    let ri = in-range (eqb code 3) 0 1 indexed i in
    let rx = in-range (set? indexed) 0 15 index x in
    let rb = in-range (eqb code 3 and clear? indexed) 0 2047 bits b in
    by_eq code 3
    (λ e. by_flag indexed (ri.on (eq-eqb code 3 e)).1
    (λ f.
    let g : index ≡ 0 = rx.off (rw f refl) in
    let h = (rb.on (rw (e, f) refl)).1 in
    rw (e, f, g) (below 2048 (λ bits. ramp_test 3 0 0 bits) u.1 bits (omega arith)))
    (λ f.
    let g : index ≡ 15 = only-15 f in
    let h : bits ≡ 0 = rb.off (rw (e, f) refl) in
    rw (e, f, g, h) u.0))
    (λ n.
    let f : indexed ≡ 0 = ri.off (ne_eqb code 3 n) in
    let g : index ≡ 0 = rx.off (rw f refl) in
    let h : bits ≡ 0 = rb.off (rw (ne_eqb code 3 n) refl) in
    rw (f, g, h) (below 3 (λ code. ramp_test code 0 0 0) t.0 code (omega arith)))

pub update_least : (offset : ℕ) (u : BlockUpdate) → offset < 32 → update_codable u ≡ true → (u.indexed ≡ 1 → u.index ≡ 15)
    → First (update_bits (coded_update (update_of offset u))) (update_bits u)
unfolding update_codable ramp_test update_bits coded_update ramp_of start_of between_if
update_least offset u l h only-15 =
    let a = halves (between 0 63 u.factor) _ h in
    let b = halves (between 0 3 u.code) _ a.1 in
    let c = halves (between_if (eqb u.code 3) 0 1 u.indexed) _ b.1 in
    let d = halves (between_if (set? u.indexed) 0 15 u.index) _ c.1 in
    let same : (offset + 32 * u.factor) / 32 ≡ u.factor = omega arith in
    let test = ramp_least u.code u.indexed u.index u.bits (most-always 3 _ b.0) c.0 d.0 d.1 only-15 in
    rw same (first-append (first_same (to_bits 6 u.factor)) (first-cancel (to_bits 6 0) _ _ (first_of _ _ test)))

-- ---- x and y, and z (5.6.1.1.8 to 5.6.1.1.11)

acrosses : all_below 64 (λ v. first? (to_bits 6 (across v)) (to_bits 6 v)) ≡ true
unfolding to_bits number
acrosses = refl

pub across_least : (v : ℕ) → v < 64 → First (to_bits 6 (across v)) (to_bits 6 v)
across_least v h = first_of _ _ (below 64 (λ v. first? (to_bits 6 (across v)) (to_bits 6 v)) acrosses v h)

abbrev z_test : ℕ → ℕ → Bool
z_test sign z = first? (to_bits 1 (z_sign (upright (height_of sign z))) ++ to_bits 4 (z_bits (upright (height_of sign z)))) (to_bits 1 sign ++ to_bits 4 z)

zs : all_below2 2 16 z_test ≡ true
unfolding z_sign z_bits to_bits number
zs = refl

pub z_least : (sign z : ℕ) → sign < 2 → z < 16
    → First (to_bits 1 (z_sign (upright (height_of sign z))) ++ to_bits 4 (z_bits (upright (height_of sign z)))) (to_bits 1 sign ++ to_bits 4 z)
z_least sign z a b = first_of _ _ (below2 2 16 z_test zs sign z a b)

-- ---- the size (Table 17)

abbrev size_test : ℕ → ℕ → Bool
size_test index all =
    first? (extent_bits (coded_extent (volume_of (record { index = index; all = all; width = 0; depth = 0; height = 0 }))))
    (extent_bits (record { index = index; all = all; width = 0; depth = 0; height = 0 }))

sizes : (size_test 0 0 and all_below 32 (λ all. size_test 1 all)) ≡ true
unfolding extent_bits coded_extent size_index volume_of to_bits number
sizes = refl

abbrev three_sizes : ℕ → ℕ → ℕ → Extent
three_sizes width depth height = record { index = 2; all = 0; width = width; depth = depth; height = height }

-- three sizes that are not written as three have fewer bits
three_least : (w d h : ℕ) → First (extent_bits (coded_extent (record { width = w; depth = d; height = h }))) (extent_bits (three_sizes w d h))
unfolding extent_bits coded_extent size_index to_bits
three_least w d h = by-test (eqb w d and eqb w h)
    (λ q. by-test (eqb w 0)
    (λ p. rw (q, p) (record { fewer = omega arith; smaller = λ n. absurd (omega arith) }))
    (λ p. rw (q, p) (record { fewer = omega arith; smaller = λ n. absurd (omega arith) })))
    (λ q. rw q (first_same _))

pub extent_least : (e : Extent) → extent_codable e ≡ true → First (extent_bits (coded_extent (volume_of e))) (extent_bits e)
unfolding extent_codable volume_of between_if
extent_least e h =
    let a = halves (between 0 2 e.index) _ h in
    let b = halves (between_if (eqb e.index 1) 0 31 e.all) _ a.1 in
    let c = halves (between_if (eqb e.index 2) 0 31 e.width) _ b.1 in
    let d = halves (between_if (eqb e.index 2) 0 31 e.depth) _ c.1 in
    let low = most true 2 e.index a.0 in
    let t = halves (size_test 0 0) _ sizes in
    let one = in-range (eqb e.index 1) 0 31 e.all b.0 in
    let width = in-range (eqb e.index 2) 0 31 e.width c.0 in
    let depth = in-range (eqb e.index 2) 0 31 e.depth d.0 in
    let height = in-range (eqb e.index 2) 0 31 e.height d.1 in
    by_eq e.index 2
    (λ q.
    let n : e.all ≡ 0 = one.off (rw q refl) in
    let same : three_sizes e.width e.depth e.height ≡ e =
    (λ i. record { index = sym q i; all = sym n i; width = e.width; depth = e.depth; height = e.height }) in
    subst (λ (x : Extent). First (extent_bits (coded_extent (volume_of x))) (extent_bits x)) same (three_least e.width e.depth e.height))
    (λ m.
    let off : eqb e.index 2 ≡ false = ne_eqb e.index 2 m in
    by_eq e.index 1
    (λ q.
    let same : record { index = 1; all = e.all; width = 0; depth = 0; height = 0 } ≡ e =
    (λ i. record { index = sym q i; all = e.all; width = sym (width.off off) i; depth = sym (depth.off off) i; height = sym (height.off off) i }) in
    let l = (one.on (rw q refl)).1 in
    subst (λ (x : Extent). First (extent_bits (coded_extent (volume_of x))) (extent_bits x)) same
    (first_of _ _ (below 32 (λ all. size_test 1 all) t.1 e.all (omega arith))))
    (λ k.
    let q : e.index ≡ 0 = omega arith in
    let n : e.all ≡ 0 = one.off (rw q refl) in
    let same : record { index = 0; all = 0; width = 0; depth = 0; height = 0 } ≡ e =
    (λ i. record { index = sym q i; all = sym n i; width = sym (width.off off) i; depth = sym (depth.off off) i; height = sym (height.off off) i }) in
    subst (λ (x : Extent). First (extent_bits (coded_extent (volume_of x))) (extent_bits x)) same (first_of _ _ t.0)))
