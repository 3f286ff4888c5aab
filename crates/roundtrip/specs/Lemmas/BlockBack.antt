-- 5.5.9 to 5.5.11: a block of a valid record is read back as it was written, and means that record.
use Rattle.std.specs.Prelude.{◌≡◌, refl, Bool, true, false, not, [], ℕ, ◌≤◌, eqb}
use Rattle.std.proofs.Common.{sym, arith, eqb-true}
use Rattle.std.proofs.lemmas.Bool.{false≢true}
use Rattle.bits.specs.Language.{pick, between}
use Rattle.bits.specs.Writes.{to_bits, only}
use Rattle.bits.specs.Back.{w-give, w-bits, w-bind, w_end}
use Rattle.bits.specs.Terms.{Writes}
use Rattle.oamd.specs.declared.Status.{Status}
use Rattle.oamd.specs.declared.Status.TheVariants.{Default, Full}
use Rattle.oamd.specs.declared.Position.TheVariants.{Absolute}
use Rattle.oamd.specs.declared.Render.{Render}
use Rattle.oamd.specs.declared.Block.{Block}
use Rattle.oamd.specs.declared.Scene.{Scene}
use Rattle.oamd.specs.Programme.{set?, dynamic_class}
use Rattle.oamd.specs.Block.{status_idx, object_basic_info, nowhere, position, distance, zone, extent, screen, object_render_info, additional_table_data, object_info_block}
use Rattle.oamd.specs.Meaning.{location_of, default_location, default_volume, default_zone, default_screen, resolve}
use Rattle.oamd.specs.Record.{carries}
use Rattle.form.specs.Valid.{between_if, location_valid, volume_valid, zone_valid, screen_valid, scene_valid}
use Rattle.form.specs.Coded.{coded_gain, coded_priority, z_sign, z_bits, coded_distance, coded_extent}
use Rattle.form.specs.Form.{status_bits, position_bits, basic_bits, render_bits, block_bits}
use Rattle.form.specs.Lemmas.Tests.{halves, by-test, by_flag, Ranged, or-default, in-range, always-ranged}
use Rattle.roundtrip.specs.Lemmas.Means.{gain-codable, gain-means, priority-codable, priority-means, z-means, across-means, distance-codable, distance-means, extent-codable, extent-means}
use Rattle.roundtrip.specs.Lemmas.Fields.{full_basic, basic-writes, no_basic, no-basic-writes, position-writes, distance-writes, zone-writes, extent-writes, screen-writes}

-- ---- a record's tests as facts

pub record SceneFacts (class : ℕ) (s : Scene) : Type 0 where
  pub active : s.active ≤ 1
  pub kind : s.class ≡ class
  pub gain : Ranged (set? s.active) 0 65 0 s.gain
  pub priority : Ranged (set? s.active) 0 32 0 s.priority
  pub x : Ranged (carries s) 0 62 31 s.location.x
  pub y : Ranged (carries s) 0 62 31 s.location.y
  pub z : Ranged (carries s) 49 79 64 s.location.z
  pub distance : Ranged (carries s) 0 17 0 s.location.distance
  pub width : Ranged (carries s) 0 31 0 s.volume.width
  pub depth : Ranged (carries s) 0 31 0 s.volume.depth
  pub height : Ranged (carries s) 0 31 0 s.volume.height
  pub zone : Ranged (carries s) 0 5 0 s.zone.index
  pub elevation : Ranged (carries s) 0 1 1 s.zone.elevation
  pub used : Ranged (carries s) 0 1 0 s.screen.used
  pub factor : Ranged (set? s.screen.used) 0 7 0 s.screen.factor
  pub back : Ranged (set? s.screen.used) 0 3 0 s.screen.depth
  pub snap : Ranged (carries s) 0 1 0 s.snap

pub scene-facts : (class : ℕ) (s : Scene) → scene_valid class s ≡ true → SceneFacts class s
unfolding scene_valid location_valid volume_valid zone_valid screen_valid
scene-facts class s h =
    let a = halves (between 0 1 s.active) _ h in
    let b = halves (eqb s.class class) _ a.1 in
    let c = halves (between_if (set? s.active) 0 65 s.gain) _ b.1 in
    let d = halves (between_if (set? s.active) 0 32 s.priority) _ c.1 in
    let e = halves (location_valid (carries s) s.location) _ d.1 in
    let f = halves (volume_valid (carries s) s.volume) _ e.1 in
    let g = halves (zone_valid (carries s) s.zone) _ f.1 in
    let i = halves (screen_valid (carries s) s.screen) _ g.1 in
    let x = halves (pick (carries s) (between 0 62 s.location.x) (eqb s.location.x 31)) _ e.0 in
    let y = halves (pick (carries s) (between 0 62 s.location.y) (eqb s.location.y 31)) _ x.1 in
    let z = halves (pick (carries s) (between 49 79 s.location.z) (eqb s.location.z 64)) _ y.1 in
    let w = halves (between_if (carries s) 0 31 s.volume.width) _ f.0 in
    let u = halves (between_if (carries s) 0 31 s.volume.depth) _ w.1 in
    let o = halves (between_if (carries s) 0 5 s.zone.index) _ g.0 in
    let k = halves (between_if (carries s) 0 1 s.screen.used) _ i.0 in
    let l = halves (between_if (set? s.screen.used) 0 7 s.screen.factor) _ k.1 in
    record {
      active = ((always-ranged 0 1 s.active a.0).on refl).1;
      kind = eqb-true _ _ b.0;
      gain = in-range _ _ _ _ c.0;
      priority = in-range _ _ _ _ d.0;
      x = or-default (carries s) 0 62 31 s.location.x x.0;
      y = or-default (carries s) 0 62 31 s.location.y y.0;
      z = or-default (carries s) 49 79 64 s.location.z z.0;
      distance = in-range _ _ _ _ z.1;
      width = in-range _ _ _ _ w.0;
      depth = in-range _ _ _ _ u.0;
      height = in-range _ _ _ _ u.1;
      zone = in-range _ _ _ _ o.0;
      elevation = or-default (carries s) 0 1 1 s.zone.elevation o.1;
      used = in-range _ _ _ _ k.0;
      factor = in-range _ _ _ _ l.0;
      back = in-range _ _ _ _ l.1;
      snap = in-range _ _ _ _ i.1;
    }

-- ---- what is read

abbrev pub full_render : Scene → Render
full_render s = record {
  status = Full;
  parts = 15;
  position = Absolute s.location.x s.location.y (z_sign s.location.z) (z_bits s.location.z);
  distance = coded_distance s.location.distance;
  zone = s.zone;
  extent = coded_extent s.volume;
  screen = s.screen;
  snap = s.snap;
}

abbrev pub no_render : Render
no_render = record {
  status = Default;
  parts = 0;
  position = nowhere;
  distance = record { given = 0; infinite = 0; index = 0 };
  zone = record { index = 0; elevation = 0 };
  extent = record { index = 0; all = 0; width = 0; depth = 0; height = 0 };
  screen = default_screen;
  snap = 0;
}

unfoldable pub coded_block : Scene → Block
coded_block s = record {
  class = s.class;
  active = s.active;
  basic = pick (set? s.active) (full_basic (coded_gain s.gain) (coded_priority s.priority)) no_basic;
  render = pick (carries s) (full_render s) no_render;
}

abbrev status_for : Bool → Status
status_for sent = pick sent Full Default

status-writes : (sent first : Bool) → Writes (status_idx (not sent) first) (status_bits sent first) (status_for sent)
unfolding status_idx status_bits
status-writes true true = w-give Full
status-writes true false = w_end (w-bits 2 1 (omega arith)) (w-give _)
status-writes false first = w-give Default

basics-write : (sent : Bool) (s : Scene) → (sent ≡ true → (s.gain ≤ 65) × (s.priority ≤ 32))
    → Writes (object_basic_info (status_for sent)) (only sent (basic_bits s)) (pick sent
    (full_basic (coded_gain s.gain) (coded_priority s.priority)) no_basic)
unfolding basic_bits
basics-write true s h =
    basic-writes (coded_gain s.gain) (coded_priority s.priority) (gain-codable s.gain (h refl).0) (priority-codable s.priority (h refl).1)
basics-write false s h = no-basic-writes

render-writes : (first : Bool) (class : ℕ) (s : Scene) → SceneFacts class s → carries s ≡ true
    → Writes (object_render_info Full first) (render_bits first s) (full_render s)
unfolding object_render_info render_bits position_bits
render-writes first class s f q =
    let x = f.x.on q in
    let y = f.y.on q in
    let z = f.z.on q in
    let m = z-means s.location.z z.0 z.1 in
    let used : Ranged true 0 1 0 s.screen.used = record { on = λ p. f.used.on q; off = λ p. absurd (false≢true (sym p)) } in
    let snap = f.snap.on q in
    w-bind (w-give 15)
    (w-bind (position-writes first s.location.x s.location.y (z_sign s.location.z) (z_bits s.location.z) (omega arith) (omega arith) m.0 m.1)
    (w-bind (distance-writes (coded_distance s.location.distance) (distance-codable s.location.distance (f.distance.on q).1))
    (w-bind (zone-writes s.zone (f.zone.on q).1 (f.elevation.on q).1)
    (w-bind (extent-writes (coded_extent s.volume) (extent-codable s.volume (f.width.on q).1 (f.depth.on q).1 (f.height.on q).1))
    (w-bind (screen-writes s.screen used f.factor f.back) (w_end (w-bits 1 s.snap (omega arith)) (w-give _)))))))

no-render-writes : (first : Bool) → Writes (object_render_info Default first) [] no_render
unfolding object_render_info position distance zone extent screen
no-render-writes first =
    w-bind (w-give 0) (w-bind (w-bind (w-give 0) (w-give nowhere)) (w-bind (w-bind (w-give 0) (w-bind (w-give 0) (w-bind (w-give 0) (w-give _))))
    (w-bind (w-bind (w-give 0) (w-bind (w-give 0) (w-give _)))
    (w-bind (w-bind (w-give 0) (w-bind (w-give 0) (w-bind (w-give 0) (w-bind (w-give 0) (w-bind (w-give 0) (w-give _))))))
    (w-bind (w-bind (w-give 0) (w-bind (w-give 0) (w-bind (w-give 0) (w-give _)))) (w-bind (w-give 0) (w-give _)))))))

renders-write : (sent first : Bool) (class : ℕ) (s : Scene) → SceneFacts class s → carries s ≡ sent
    → Writes (object_render_info (status_for sent) first) (only sent (render_bits first s)) (pick sent (full_render s) no_render)
renders-write true first class s f q = render-writes first class s f q
renders-write false first class s f q = no-render-writes first

no-additional-writes : Writes additional_table_data (to_bits 1 0) 0
unfolding additional_table_data
no-additional-writes = w_end (w-bits 1 0 (omega arith)) (w-bind (w-give 0) (w-give 0))

pub block_writes : (blk : ℕ) (class : ℕ) (s : Scene) → SceneFacts class s
    → Writes (object_info_block s.class blk) (block_bits (eqb blk 0) s) (coded_block s)
unfolding object_info_block block_bits coded_block basic_bits render_bits
block_writes blk class s f =
    let first : Bool = eqb blk 0 in
    let sent : Bool = eqb s.class dynamic_class in
    by_flag s.active f.active
    (λ e. rw e (w-bind (w-bits 1 1 (omega arith)) (w-bind (status-writes false first) (w-bind no-basic-writes (w-bind (status-writes false first)
    (w-bind (no-render-writes first) (w_end no-additional-writes (w-give _))))))))
    (λ e.
    let basic : set? s.active ≡ true = rw e refl in
    let render : carries s ≡ sent = rw e refl in
    let g = f.gain.on basic in
    let p = f.priority.on basic in
    rw e (w-bind (w-bits 1 0 (omega arith)) (w-bind (status-writes true first) (w-bind (basics-write true s (λ q. (g.1, p.1)))
    (w-bind (status-writes sent first) (w-bind (renders-write sent first class s f render) (w_end no-additional-writes (w-give _))))))))

-- ---- what it means

-- where nothing of a position, a size, a zone, a screen reference or a snap is sent, they are the defaults
pub record Plain (s : Scene) : Type 0 where
  pub location : default_location ≡ s.location
  pub volume : default_volume ≡ s.volume
  pub zone : default_zone ≡ s.zone
  pub screen : default_screen ≡ s.screen
  pub snap : 0 ≡ s.snap

pub plain : {class : ℕ} {s : Scene} → SceneFacts class s → carries s ≡ false → Plain s
plain {s = s} f c =
    let used = sym (f.used.off c) in
    let off : set? s.screen.used ≡ false = rw (← used) refl in
    record {
      location = λ i. record { x = sym (f.x.off c) i; y = sym (f.y.off c) i; z = sym (f.z.off c) i; distance = sym (f.distance.off c) i };
      volume = λ i. record { width = sym (f.width.off c) i; depth = sym (f.depth.off c) i; height = sym (f.height.off c) i };
      zone = λ i. record { index = sym (f.zone.off c) i; elevation = sym (f.elevation.off c) i };
      screen = λ i. record { used = used i; factor = sym (f.factor.off off) i; depth = sym (f.back.off off) i };
      snap = sym (f.snap.off c);
    }

-- a block that is written takes nothing from the block before nor from the object before
pub block-means : (before : Scene) (above class : ℕ) (s : Scene) → SceneFacts class s → resolve before above (coded_block s) ≡ s
unfolding resolve coded_block location_of
block-means before above class s f = by-test (set? s.active)
    (λ a.
    let gain = gain-means s.gain above (f.gain.on a).1 in
    let priority = priority-means s.priority (f.priority.on a).1 in
    by-test (carries s)
    (λ c.
    let z = f.z.on c in
    let px = across-means s.location.x (f.x.on c).1 in
    let py = across-means s.location.y (f.y.on c).1 in
    let pz = (z-means s.location.z z.0 z.1).2 in
    let pd = distance-means s.location.distance (f.distance.on c).1 in
    let volume = extent-means s.volume in
    rw (c, a) (λ i. record {
      active = s.active;
      class = s.class;
      gain = gain i;
      priority = priority i;
      location = record { x = px i; y = py i; z = pz i; distance = pd i };
      volume = volume i;
      zone = s.zone;
      screen = s.screen;
      snap = s.snap;
    }))
    (λ c.
    let d = plain f c in
    rw (c, a) (λ i. record {
      active = s.active;
      class = s.class;
      gain = gain i;
      priority = priority i;
      location = d.location i;
      volume = d.volume i;
      zone = d.zone i;
      screen = d.screen i;
      snap = d.snap i;
    })))
    (λ a.
    let c : carries s ≡ false = rw a refl in
    let d = plain f c in
    rw (c, a) (λ i. record {
      active = s.active;
      class = s.class;
      gain = sym (f.gain.off a) i;
      priority = sym (f.priority.off a) i;
      location = d.location i;
      volume = d.volume i;
      zone = d.zone i;
      screen = d.screen i;
      snap = d.snap i;
    }))
