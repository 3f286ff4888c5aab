-- How many bits each part of the form has at the most where fields exclude each other, no part of the tables but the counts looked at.
use Rattle.std.specs.Prelude.{◌≡◌, refl, Bool, true, false, List, [], ◌∷◌, ◌++◌, ℕ, zero, suc, ◌+◌, ◌-◌, ◌*◌, ◌/◌, ◌≤◌, ◌<◌, length, take, drop, replicate, leb, eqb}
use Rattle.std.proofs.Common.{arith, mul-suc, length-append, length-take, eqb-true}
use Rattle.std.proofs.lemmas.List.{length-replicate}
use Rattle.std.proofs.lemmas.Bool.{lt-leb}
use Rattle.bits.specs.Language.{pick, both}
use Rattle.bits.specs.Writes.{to_bits, only, each_bits}
use Rattle.bits.specs.Lists.{length-to_bits}
use Rattle.oamd.specs.declared.Programme.{Programme}
use Rattle.oamd.specs.declared.Bed.{Bed}
use Rattle.oamd.specs.declared.Offset.{Offset}
use Rattle.oamd.specs.declared.BlockUpdate.{BlockUpdate}
use Rattle.oamd.specs.declared.Timing.{Timing}
use Rattle.oamd.specs.declared.Scene.{Scene}
use Rattle.oamd.specs.declared.Location.{Location}
use Rattle.oamd.specs.declared.Extent.{Extent}
use Rattle.oamd.specs.declared.Divergence.{Divergence}
use Rattle.oamd.specs.Programme.{set?, clear?, has_beds, has_isf, has_dynamic}
use Rattle.oamd.specs.Record.{Record, carries}
use Rattle.oamd.specs.Payload.{Tables}
use Rattle.form.specs.Coded.{coded_update, coded_distance, coded_extent}
use Rattle.form.specs.Form.{bed_bits, beds_bits, assignment_bits, header_bits, offset_bits, update_bits, timing_bits, status_bits, position_bits, zone_bits, extent_bits, render_bits}
use Rattle.form.specs.Form.{block_bits, by_object, object_data_bits, object_element_bits, any, diverges, refines, extended_element_bits, divergence_bits, precise_bits, size_bits, size_for}
use Rattle.form.specs.Form.{framed_bits, element_bits}
use Rattle.form.specs.Lemmas.Tests.{halves}
use Rattle.roundtrip.specs.Lemmas.AcceptedTiming.{picked_le}
use Rattle.roundtrip.specs.Lemmas.Lengths.{Short, bits-short, also, if-sent, at_most, each-short, maybe, count-short, basic-short, distance-short, screen-short, precise-short, group-short}

-- bits that are there only if the test holds, before others that are fewer then
one_of : {l m : List ℕ} {a b : ℕ} (t : Bool) (c : ℕ) → Short l a → Short m b → (t ≡ true → Short m c) → a + c ≤ b → Short (only t l ++ m) b
one_of true c f g h le = at_most _ (also f (h refl)) le
one_of false c f g h le = g

-- nothing is there
nothing : Short [] 0
nothing = record { most = omega arith }

-- a flag is not both set and clear
set-clear : (n : ℕ) → set? n ≡ true → clear? n ≡ false
set-clear n h = rw (eqb-true n 1 h) refl

both_false : (t : Bool) → both t false ≡ false
both_false true = refl
both_false false = refl

-- ---- what stands before the elements

bed-longest : (b : Bed) → Short (bed_bits b) 19
unfolding bed_bits
bed-longest b =
    also (bits-short 1 _) (also (maybe (clear? b.lfeonly) 1 b.standard)
    (one_of (set? b.standard) 0 (bits-short 10 _) (maybe (both (clear? b.lfeonly) (clear? b.standard)) 17 b.assignment)
    (λ q. rw (set-clear b.standard q, both_false (clear? b.lfeonly)) nothing) (omega arith)))

beds-longest : (p : Programme) → Short (beds_bits p) (5 + 19 * length (take p.bedcount p.beds))
unfolding beds_bits
beds-longest p =
    at_most _ (also (maybe (has_beds p.content) 1 p.distribute) (also (maybe (has_beds p.content) 1 p.multiple)
    (also (maybe (set? p.multiple) 3 p.instances)
    (each-short (λ i b. bed_bits b) 19 0 (take p.bedcount p.beds) (λ i b. bed-longest b))))) (omega arith)

pub header-longest : (p : Programme) → Short (header_bits p) (40 + 19 * length (take p.bedcount p.beds))
unfolding header_bits assignment_bits
header-longest p =
    let n : ℕ = length (take p.bedcount p.beds) in
    let rest = also (beds-longest p) (also (maybe (has_isf p.content) 3 p.isf) (if-sent (has_dynamic p.content) (count-short p.dynamics))) in
    at_most _ (also (bits-short 2 0) (also (count-short _) (also (also (bits-short 1 _)
    (one_of {b = 24 + 19 * n} (set? p.dynonly) (20 + 19 * n) (bits-short 1 _)
    (at_most _ (also (maybe (clear? p.dynonly) 4 p.content) rest) (omega arith))
    (λ q. rw (set-clear p.dynonly q) (at_most _ rest (omega arith))) (omega arith)))
    (bits-short 1 0)))) (omega arith)

-- ---- the timing

update-longest : (u : BlockUpdate) → Short (update_bits u) 20
unfolding update_bits
update-longest u =
    also (bits-short 6 _) (also (bits-short 2 _) (also (maybe (eqb u.code 3) 1 u.indexed)
    (one_of (set? u.indexed) 0 (bits-short 4 _) (maybe (both (eqb u.code 3) (clear? u.indexed)) 11 u.bits)
    (λ q. rw (set-clear u.indexed q, both_false (eqb u.code 3)) nothing) (omega arith))))

offset-longest : (o : Offset) → Short (offset_bits o) 7
unfolding offset_bits
offset-longest o =
    also (bits-short 2 _) (one_of (eqb o.code 1) 0 (bits-short 2 _) (maybe (eqb o.code 2) 5 o.bits)
    (λ q. rw (eqb-true o.code 1 q) nothing) (omega arith))

timing-longest : (t : Timing) → Short (timing_bits t) (10 + 20 * length (take t.blocks t.updates))
unfolding timing_bits
timing-longest t =
    at_most _ (also (offset-longest _) (also (bits-short 3 _)
    (each-short (λ i u. update_bits (coded_update u)) 20 0 (take t.blocks t.updates) (λ i u. update-longest (coded_update u))))) (omega arith)

-- ---- a block: the first of an object has no status and says nothing of its position

position-longest : (first : Bool) (p : Location) → Short (position_bits first p) (pick first 17 18)
unfolding position_bits
position-longest true p = also nothing (also (bits-short 6 _) (also (bits-short 6 _) (also (bits-short 1 _) (bits-short 4 _))))
position-longest false p = also (bits-short 1 0) (also (bits-short 6 _) (also (bits-short 6 _) (also (bits-short 1 _) (bits-short 4 _))))

extent-longest : (e : Extent) → Short (extent_bits e) 17
unfolding extent_bits
extent-longest e =
    also (bits-short 2 _) (one_of (eqb e.index 1) 0 (bits-short 5 _)
    (also (maybe (eqb e.index 2) 5 e.width) (also (maybe (eqb e.index 2) 5 e.depth) (maybe (eqb e.index 2) 5 e.height)))
    (λ q. rw (eqb-true e.index 1 q) nothing) (omega arith))

render-longest : (first : Bool) (s : Scene) → Short (render_bits first s) (pick first 17 18 + 34)
unfolding render_bits zone_bits
render-longest first s =
    at_most _ (also (position-longest first s.location) (also (distance-short (coded_distance s.location.distance))
    (also (also (bits-short 3 _) (bits-short 1 _)) (also (extent-longest (coded_extent s.volume)) (also (screen-short s.screen) (bits-short 1 _)))))) (omega arith)

status-longest : (sent first : Bool) → Short (status_bits sent first) (pick first 0 2)
unfolding status_bits
status-longest sent true = rw (both_false sent) nothing
status-longest sent false = maybe (both sent true) 2 1

block-longest : (first : Bool) (s : Scene) → Short (block_bits first s) (pick first 67 72)
unfolding block_bits
block-longest first s =
    let all = also (bits-short 1 _) (also (status-longest _ first) (also (if-sent (set? s.active) (basic-short s)) (also (status-longest _ first)
    (also (if-sent (carries s) (render-longest first s)) (bits-short 1 0))))) in
    at_most _ all (enough first)
  where
    enough : (first : Bool) → 1 + (pick first 0 2 + (14 + (pick first 0 2 + (pick first 17 18 + 34 + 1)))) ≤ pick first 67 72
    enough true = omega arith
    enough false = omega arith

-- ---- the object element

later-longest : (i : ℕ) (rs : List Record) → Short (each_bits (λ blk r. block_bits (eqb blk 0) r.scene) i rs) (72 * length rs)
unfolding each_bits
later-longest i [] = record { most = omega arith }
later-longest i (r ∷ rs) =
    at_most _ (also (at_most 72 (block-longest (eqb i 0) r.scene) (picked_le (eqb i 0) 67 72 72 (λ q. omega arith) (λ q. omega arith)))
    (later-longest (suc i) rs)) (let e = mul-suc 72 (length rs) in omega arith)

data-longest : (rs : List Record) → length rs ≤ 8 → Short (object_data_bits rs) 571
unfolding object_data_bits each_bits
data-longest [] l = record { most = omega arith }
data-longest (r ∷ rs) l = at_most _ (also (block-longest true r.scene) (later-longest 1 rs)) (omega arith)

take_le : {A : Type 0} (n : ℕ) (xs : List A) → length (take n xs) ≤ n
take_le n xs = let e = length-take n xs in omega arith

objects-longest : (blocks i count : ℕ) (rs : List Record) → blocks ≤ 8
    → Short (each_bits (λ j o. object_data_bits o) i (by_object blocks count rs)) (571 * count)
unfolding each_bits by_object
objects-longest blocks i zero rs l = record { most = omega arith }
objects-longest blocks i (suc count) rs l =
    let few = take_le blocks rs in
    at_most _ (also (data-longest (take blocks rs) (omega arith)) (objects-longest blocks (suc i) count (drop blocks rs) l))
    (let e = mul-suc 571 count in omega arith)

pub object-element-longest : (t : Tables) → t.timing.blocks ≤ 8
    → Short (object_element_bits t) (11 + 20 * length (take t.timing.blocks t.timing.updates) + 571 * t.programme.objects)
unfolding object_element_bits
object-element-longest t l =
    at_most _ (also (timing-longest t.timing) (also (bits-short 1 1)
    (objects-longest t.timing.blocks 0 t.programme.objects t.records l))) (omega arith)

-- ---- the extended object element

divergence-longest : (sent : Bool) (d : Divergence) → Short (divergence_bits sent d) 9
unfolding divergence_bits
divergence-longest sent d =
    also (maybe sent 1 d.used) (also (maybe (set? d.used) 2 d.mode)
    (one_of (both (set? d.used) (eqb d.mode 0)) 0 (bits-short 2 _) (maybe (eqb d.mode 2) 6 d.value)
    (λ q. let zero? = (halves (set? d.used) (eqb d.mode 0) q).1 in rw (eqb-true d.mode 0 zero?) nothing) (omega arith)))

pub extended-element-longest : (rs : List Record) → Short (extended_element_bits rs) (2 + 19 * length rs)
unfolding extended_element_bits
extended-element-longest rs =
    at_most _ (also (bits-short 1 _) (also (if-sent (any diverges rs) (each-short (λ i r. divergence_bits (carries r.scene) r.divergence) 9 0 rs
    (λ i r. divergence-longest _ r.divergence)))
    (also (bits-short 1 _) (if-sent (any refines rs) (each-short (λ i r. precise_bits (carries r.scene) r.precise) 10 0 rs
    (λ i r. precise-short _ r.precise)))))) (omega arith)

-- ---- elements

-- a size of few groups
pub size-three : (v : ℕ) → v < 4368 → Short (size_bits v) 15
unfolding size_bits
size-three v l =
    rw (lt-leb 4368 v l) (also (if-sent (leb 272 v) (group-short _ 1)) (also (if-sent (leb 16 v) (group-short _ 1)) (group-short _ 0)))

pub size-two : (v : ℕ) → v < 272 → Short (size_bits v) 10
unfolding size_bits
size-two v l =
    let m : v < 4368 = omega arith in
    rw (lt-leb 4368 v m, lt-leb 272 v l) (also (if-sent (leb 16 v) (group-short _ 1)) (group-short _ 0))

-- an element with at most n bits of fields, and a size of at most k bits: it fills whole bytes
pub element-longest : (id : ℕ) (fields : List ℕ) (n k : ℕ) → Short fields n → Short (size_bits (size_for (1 + length fields))) k
    → Short (element_bits id fields) (4 + k + 8 * ((n + 8) / 8))
unfolding element_bits framed_bits size_for
element-longest id fields n k f g =
    let inside : ℕ = 1 + length fields in
    let pad : ℕ = 8 * (size_for inside + 1) - inside in
    let zeros : List ℕ = replicate pad 0 in
    let a = length-append (to_bits 1 0 ++ fields) zeros in
    let b = length-append (to_bits 1 0) fields in
    let c = length-to_bits 1 0 in
    let d : length zeros ≡ pad = length-replicate pad 0 in
    let e = f.most in
    let body : Short ((to_bits 1 0 ++ fields) ++ zeros) (8 * ((n + 8) / 8)) = record { most = omega arith } in
    at_most _ (also (bits-short 4 id) (also g body)) (omega arith)
