-- How many bits each part of the form has at the most.
use Rattle.std.specs.Prelude.{◌≡◌, Bool, true, false, not, take, drop, replicate, leb, ltb, eqb}
use Rattle.std.proofs.Math.Path.{ap}
use mathlib.Core.List.{List, [], ◌∷◌, ◌++◌}
use Prim.Native.Nat.{ℕ, zero, suc, ◌+◌, ◌-◌, ◌*◌, ◌≤◌}
use native.Mathlib.Omega.{arith}
use Rattle.std.proofs.Math.Nat.{mul-suc, mul-add}
use Rattle.std.proofs.Math.ListN.{length, length-append}
use Rattle.std.proofs.lemmas.List.{length-replicate}
use Rattle.std.proofs.Common.{take-append-drop}
use Rattle.bits.specs.Language.{both}
use Rattle.bits.specs.Writes.{to_bits, only, each_bits}
use Rattle.bits.specs.Lists.{length-to_bits}
use Rattle.bits.specs.Terms.{Every}
use Rattle.oamd.specs.declared.Programme.{Programme}
use Rattle.oamd.specs.declared.Bed.{Bed}
use Rattle.oamd.specs.declared.Offset.{Offset}
use Rattle.oamd.specs.declared.BlockUpdate.{BlockUpdate}
use Rattle.oamd.specs.declared.Timing.{Timing}
use Rattle.oamd.specs.declared.Scene.{Scene}
use Rattle.oamd.specs.declared.Divergence.{Divergence}
use Rattle.oamd.specs.declared.Precise.{Precise}
use Rattle.oamd.specs.declared.Location.{Location}
use Rattle.oamd.specs.declared.Distance.{Distance}
use Rattle.oamd.specs.declared.Extent.{Extent}
use Rattle.oamd.specs.declared.Screen.{Screen}
use Rattle.oamd.specs.declared.TrimConfig.{TrimConfig}
use Rattle.oamd.specs.Programme.{set?, clear?, has_beds, has_isf, has_dynamic}
use Rattle.oamd.specs.Extended.{has_x, has_y, has_z}
use Rattle.oamd.specs.Trim.{has_centre, has_surround, has_height, has_tb, has_lis, TrimTable}
use Rattle.oamd.specs.Record.{Record, carries}
use Rattle.oamd.specs.Payload.{Tables}
use Rattle.form.specs.Coded.{coded_update, coded_gain, coded_priority, coded_distance, coded_extent}
use Rattle.form.specs.Form.{count_bits, bed_bits, beds_bits, assignment_bits, header_bits, offset_bits, update_bits, timing_bits, status_bits, gain_bits, priority_bits, position_bits}
use Rattle.form.specs.Form.{distance_bits, zone_bits, extent_bits, screen_bits, basic_bits, render_bits, block_bits, by_object, object_data_bits, object_element_bits, any, diverges, refines}
use Rattle.form.specs.Form.{extended_element_bits, divergence_bits, precise_bits, config_bits, trim_element_bits, group_bits, size_bits, size_for, framed_bits, element_bits}

-- l has at most n bits
pub record Short (l : List ℕ) (n : ℕ) : Type 0 where
  pub most : length l ≤ n

pub bits-short : (w v : ℕ) → Short (to_bits w v) w
bits-short w v = record { most = (let e = length-to_bits w v in omega arith) }

pub also : {l m : List ℕ} {a b : ℕ} → Short l a → Short m b → Short (l ++ m) (a + b)
also {l} {m} f g = record { most = (let e = length-append l m in let x = f.most in let y = g.most in omega arith) }

pub if-sent : {l : List ℕ} {n : ℕ} (t : Bool) → Short l n → Short (only t l) n
if-sent true f = f
if-sent false f = record { most = omega arith }

pub at_most : {l : List ℕ} {m : ℕ} (n : ℕ) → Short l m → m ≤ n → Short l n
at_most n f h = record { most = (let x = f.most in omega arith) }

pub each-short : {Y : Type 0} (l : ℕ → Y → List ℕ) (n i : ℕ) (ys : List Y) → ((i : ℕ) (y : Y) → Short (l i y) n) → Short (each_bits l i ys) (n * length ys)
unfolding each_bits
each-short l n i [] f = record { most = omega arith }
each-short l n i (y ∷ ys) f = at_most _ (also (f i y) (each-short l n (suc i) ys f)) (let e = mul-suc n (length ys) in omega arith)

-- a field that is there only if the test holds
pub maybe : (t : Bool) (w v : ℕ) → Short (only t (to_bits w v)) w
maybe t w v = if-sent t (bits-short w v)

-- ---- what stands before the elements

pub count-short : (n : ℕ) → Short (count_bits n) 12
unfolding count_bits
count-short n = also (bits-short 5 _) (maybe (not (ltb n 31)) 7 (n - 31))

bed-short : (b : Bed) → Short (bed_bits b) 29
unfolding bed_bits
bed-short b =
    also (bits-short 1 _) (also (maybe (clear? b.lfeonly) 1 b.standard) (also (maybe (set? b.standard) 10 b.assignment)
    (maybe (both (clear? b.lfeonly) (clear? b.standard)) 17 b.assignment)))

beds-short : (p : Programme) → Short (beds_bits p) (5 + 29 * length (take p.bedcount p.beds))
unfolding beds_bits
beds-short p =
    at_most _ (also (maybe (has_beds p.content) 1 p.distribute) (also (maybe (has_beds p.content) 1 p.multiple)
    (also (maybe (set? p.multiple) 3 p.instances)
    (each-short (λ i b. bed_bits b) 29 0 (take p.bedcount p.beds) (λ i b. bed-short b))))) (omega arith)

pub header-short : (p : Programme) → Short (header_bits p) (41 + 29 * length (take p.bedcount p.beds))
unfolding header_bits assignment_bits
header-short p =
    at_most _ (also (bits-short 2 0) (also (count-short _) (also (also (bits-short 1 _)
    (also (maybe (set? p.dynonly) 1 p.lfe) (also (maybe (clear? p.dynonly) 4 p.content)
    (also (beds-short p) (also (maybe (has_isf p.content) 3 p.isf) (if-sent (has_dynamic p.content) (count-short p.dynamics)))))))
    (bits-short 1 0)))) (omega arith)

-- ---- the timing

update-short : (u : BlockUpdate) → Short (update_bits u) 24
unfolding update_bits
update-short u =
    also (bits-short 6 _) (also (bits-short 2 _) (also (maybe (eqb u.code 3) 1 u.indexed) (also (maybe (set? u.indexed) 4 u.index)
    (maybe (both (eqb u.code 3) (clear? u.indexed)) 11 u.bits))))

offset-short : (o : Offset) → Short (offset_bits o) 9
unfolding offset_bits
offset-short o = also (bits-short 2 _) (also (maybe (eqb o.code 1) 2 o.index) (maybe (eqb o.code 2) 5 o.bits))

pub timing-short : (t : Timing) → Short (timing_bits t) (12 + 24 * length (take t.blocks t.updates))
unfolding timing_bits
timing-short t =
    at_most _ (also (offset-short _) (also (bits-short 3 _)
    (each-short (λ i u. update_bits (coded_update u)) 24 0 (take t.blocks t.updates) (λ i u. update-short (coded_update u))))) (omega arith)

-- ---- blocks

pub basic-short : (s : Scene) → Short (basic_bits s) 14
unfolding basic_bits gain_bits priority_bits
basic-short s =
    also (also (bits-short 2 _) (maybe (eqb (coded_gain s.gain).index 2) 6 _)) (also (bits-short 1 _)
    (maybe (clear? (coded_priority s.priority).bydefault) 5 _))

position-short : (first : Bool) (p : Location) → Short (position_bits first p) 18
unfolding position_bits
position-short first p = also (maybe (not first) 1 0) (also (bits-short 6 _) (also (bits-short 6 _) (also (bits-short 1 _) (bits-short 4 _))))

pub distance-short : (d : Distance) → Short (distance_bits d) 6
unfolding distance_bits
distance-short d = also (bits-short 1 _) (also (maybe (set? d.given) 1 d.infinite)
    (maybe (both (set? d.given) (clear? d.infinite)) 4 d.index))

extent-short : (e : Extent) → Short (extent_bits e) 22
unfolding extent_bits
extent-short e =
    also (bits-short 2 _) (also (maybe (eqb e.index 1) 5 e.all) (also (maybe (eqb e.index 2) 5 e.width)
    (also (maybe (eqb e.index 2) 5 e.depth) (maybe (eqb e.index 2) 5 e.height))))

pub screen-short : (s : Screen) → Short (screen_bits s) 6
unfolding screen_bits
screen-short s = also (bits-short 1 _) (also (maybe (set? s.used) 3 s.factor) (maybe (set? s.used) 2 s.depth))

render-short : (first : Bool) (s : Scene) → Short (render_bits first s) 57
unfolding render_bits zone_bits
render-short first s =
    also (position-short first s.location) (also (distance-short (coded_distance s.location.distance)) (also (also (bits-short 3 _) (bits-short 1 _))
    (also (extent-short (coded_extent s.volume)) (also (screen-short s.screen) (bits-short 1 _)))))

status-short : (sent first : Bool) → Short (status_bits sent first) 2
unfolding status_bits
status-short sent first = maybe (both sent (not first)) 2 1

pub block-short : (first : Bool) (s : Scene) → Short (block_bits first s) 77
unfolding block_bits
block-short first s =
    also (bits-short 1 _) (also (status-short _ first) (also (if-sent (set? s.active) (basic-short s)) (also (status-short _ first)
    (also (if-sent (carries s) (render-short first s)) (bits-short 1 0)))))

-- the blocks of objects whose records have blocks of at most n bits
module _ (n : ℕ) where
  abbrev pub Small : Record → Type 0
  Small r = (first : Bool) → Short (block_bits first r.scene) n

  data-short : (i : ℕ) (rs : List Record) → Every Small rs → Short (each_bits (λ blk r. block_bits (eqb blk 0) r.scene) i rs) (n * length rs)
  unfolding each_bits
  data-short i [] h = record { most = omega arith }
  data-short i (r ∷ rs) h = at_most _ (also (h.0 (eqb i 0)) (data-short (suc i) rs h.1)) (let e = mul-suc n (length rs) in omega arith)

  small-take : (b : ℕ) (rs : List Record) → Every Small rs → Every Small (take b rs)
  small-take zero [] h = tt
  small-take zero (r ∷ rs) h = tt
  small-take (suc b) [] h = tt
  small-take (suc b) (r ∷ rs) h = (h.0, small-take b rs h.1)

  small-drop : (b : ℕ) (rs : List Record) → Every Small rs → Every Small (drop b rs)
  small-drop zero [] h = tt
  small-drop zero (r ∷ rs) h = h
  small-drop (suc b) [] h = tt
  small-drop (suc b) (r ∷ rs) h = small-drop b rs h.1

  pub objects-short : (blocks i count : ℕ) (rs : List Record) → Every Small rs
      → Short (each_bits (λ j o. object_data_bits o) i (by_object blocks count rs)) (n * length rs)
  unfolding each_bits by_object object_data_bits
  objects-short blocks i zero rs h = record { most = omega arith }
  objects-short blocks i (suc count) rs h =
      let a = length-append (take blocks rs) (drop blocks rs) in
      let b = ap length (take-append-drop blocks rs) in
      let c = mul-add n (length (take blocks rs)) (length (drop blocks rs)) in
      let e : length rs ≡ length (take blocks rs) + length (drop blocks rs) = omega arith in
      at_most _ (also (data-short 0 (take blocks rs) (small-take blocks rs h)) (objects-short blocks (suc i) count (drop blocks rs)
      (small-drop blocks rs h)))
      (rw e (omega arith))

all_small : (rs : List Record) → Every (Small 77) rs
all_small [] = tt
all_small (r ∷ rs) = (λ first. block-short first r.scene, all_small rs)

pub object-element-short : (t : Tables)
    → Short (object_element_bits t) (13 + 24 * length (take t.timing.blocks t.timing.updates) + 77 * length t.records)
unfolding object_element_bits
object-element-short t =
    at_most _ (also (timing-short t.timing) (also (bits-short 1 1) (objects-short 77 t.timing.blocks 0 t.programme.objects t.records
    (all_small t.records)))) (omega arith)

-- ---- the extended object element

divergence-short : (sent : Bool) (d : Divergence) → Short (divergence_bits sent d) 11
unfolding divergence_bits
divergence-short sent d =
    also (maybe sent 1 d.used) (also (maybe (set? d.used) 2 d.mode) (also (maybe (both (set? d.used) (eqb d.mode 0)) 2 d.value)
    (maybe (eqb d.mode 2) 6 d.value)))

pub precise-short : (sent : Bool) (p : Precise) → Short (precise_bits sent p) 10
unfolding precise_bits
precise-short sent p =
    also (maybe sent 1 _) (also (maybe (ltb 0 p.presence) 3 p.presence) (also (maybe (has_x p.presence) 2 p.x)
    (also (maybe (has_y p.presence) 2 p.y) (maybe (has_z p.presence) 2 p.z))))

pub extended-element-short : (rs : List Record) → Short (extended_element_bits rs) (2 + 21 * length rs)
unfolding extended_element_bits
extended-element-short rs =
    at_most _ (also (bits-short 1 _) (also (if-sent (any diverges rs) (each-short (λ i r. divergence_bits (carries r.scene) r.divergence) 11 0 rs
    (λ i r. divergence-short _ r.divergence)))
    (also (bits-short 1 _) (if-sent (any refines rs) (each-short (λ i r. precise_bits (carries r.scene) r.precise) 10 0 rs
    (λ i r. precise-short _ r.precise)))))) (omega arith)

-- ---- the trim element

config-short : (c : TrimConfig) → Short (config_bits c) 29
unfolding config_bits
config-short c =
    also (bits-short 1 _) (also (maybe (clear? c.bydefault) 1 c.disabled)
    (also (maybe (both (clear? c.bydefault) (clear? c.disabled)) 5 c.presence)
    (also (maybe (has_centre c.presence) 4 c.centre) (also (maybe (has_surround c.presence) 4 c.surround)
    (also (maybe (has_height c.presence) 4 c.height) (also (maybe (has_tb c.presence) 1 c.tbsign)
    (also (maybe (has_tb c.presence) 4 c.tbamount) (also (maybe (has_lis c.presence) 1 c.lissign)
    (maybe (has_lis c.presence) 4 c.lisamount)))))))))

pub trim-element-short : (t : TrimTable) → Short (trim_element_bits t) (7 + 29 * length t.configs + length t.disabled)
unfolding trim_element_bits
trim-element-short t =
    at_most _ (also (bits-short 2 _) (also (bits-short 2 0) (also (bits-short 2 _)
    (also (if-sent (eqb t.mode 2) (each-short (λ cfg c. config_bits c) 29 0 t.configs (λ cfg c. config-short c)))
    (also (bits-short 1 _) (if-sent (set? t.per-object) (each-short (λ obj x. to_bits 1 x) 1 0 t.disabled (λ obj x. bits-short 1 x)))))))) (omega arith)

-- ---- elements

pub group-short : (digit more : ℕ) → Short (group_bits digit more) 5
unfolding group_bits
group-short digit more = also (bits-short 4 _) (bits-short 1 _)

pub size-short : (v : ℕ) → Short (size_bits v) 20
unfolding size_bits
size-short v =
    also (if-sent (leb 4368 v) (group-short _ 1)) (also (if-sent (leb 272 v) (group-short _ 1))
    (also (if-sent (leb 16 v) (group-short _ 1)) (group-short _ 0)))

pub element-short : (id : ℕ) (fields : List ℕ) (n : ℕ) → Short fields n → Short (element_bits id fields) (32 + n)
unfolding element_bits framed_bits size_for
element-short id fields n f =
    let inside : ℕ = 1 + length fields in
    let pad : ℕ = 8 * (size_for inside + 1) - inside in
    let zeros : List ℕ = replicate pad 0 in
    let size : List ℕ = size_bits (size_for inside) in
    let body : List ℕ = (to_bits 1 0 ++ fields) ++ zeros in
    let a = length-append (to_bits 4 id) (size ++ body) in
    let b = length-append size body in
    let c = length-append (to_bits 1 0 ++ fields) zeros in
    let d = length-append (to_bits 1 0) fields in
    let e = length-to_bits 4 id in
    let g = length-to_bits 1 0 in
    let h : length zeros ≡ pad = length-replicate pad 0 in
    let k = (size-short (size_for inside)).most in
    let l = f.most in
    record { most = omega arith }
