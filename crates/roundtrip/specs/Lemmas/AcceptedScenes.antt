-- 5.6.1: what the blocks of an accepted payload mean, block by block and object by object, is valid.
use Rattle.std.specs.Prelude.{◌≡◌, refl, Bool, true, false, ltb, eqb}
use Rattle.std.proofs.Math.Path.{sym}
use Rattle.std.proofs.Common.{ap, ◌∙◌, zero-mul, eq-eqb, ltb-false}
use mathlib.Core.List.{List, [], ◌∷◌, ◌++◌}
use Prim.Native.Nat.{ℕ, zero, suc, ◌+◌, ◌-◌, ◌*◌, ◌≤◌, ◌<◌}
use native.Mathlib.Omega.{arith}
use Rattle.std.proofs.Math.Nat.{suc-mul}
use Rattle.std.proofs.Math.Arith.{digits_div}
use Rattle.std.proofs.Math.ListN.{length, length-append}
use Rattle.bits.specs.Language.{from, between}
use Rattle.bits.specs.Terms.{All, Every}
use Rattle.oamd.specs.declared.Status.{Status}
use Rattle.oamd.specs.declared.Status.TheVariants.{Default, Full, Reuse, Mixed}
use Rattle.oamd.specs.declared.Position.{Position}
use Rattle.oamd.specs.declared.Position.TheVariants.{Absolute, Moved}
use Rattle.oamd.specs.declared.Gain.{Gain}
use Rattle.oamd.specs.declared.Priority.{Priority}
use Rattle.oamd.specs.declared.Distance.{Distance}
use Rattle.oamd.specs.declared.Extent.{Extent}
use Rattle.oamd.specs.declared.Block.{Block}
use Rattle.oamd.specs.declared.Location.{Location}
use Rattle.oamd.specs.declared.Shares.{Shares}
use Rattle.oamd.specs.declared.Scene.{Scene}
use Rattle.oamd.specs.Tables.{distance_codes}
use Rattle.oamd.specs.Programme.{set?, class_of}
use Rattle.oamd.specs.Meaning.{value_of, gain_of, priority_of, clamp, moved_by, across, upright, height_of, distance_of, location_of, volume_of, default_location, default_volume}
use Rattle.oamd.specs.Meaning.{default_zone, default_screen, idle, resolve, first_gain, behind_first, nothing_before, scenes_from, scenes_of, all_scenes}
use Rattle.oamd.specs.Record.{carries}
use Rattle.form.specs.Valid.{◌and◌, between_if, location_valid, volume_valid, zone_valid, screen_valid, scene_valid}
use Rattle.form.specs.Lemmas.Tests.{whole, by-test, always, is-ranged}
use Rattle.roundtrip.specs.Lemmas.Entries.{ByClass}
use Rattle.roundtrip.specs.Lemmas.AcceptedTiming.{entry_le, picked_le}
use Rattle.roundtrip.specs.Lemmas.AcceptedBlock.{BlockRead}

-- ---- the meaning of each group is in its range

gain_le : (g : Gain) (above : ℕ) → above ≤ 65 → gain_of g above ≤ 65
unfolding gain_of
gain_le g above l =
    picked_le (eqb g.index 0) 50 _ 65 (λ q. omega arith) (λ q. picked_le (eqb g.index 1) 0 _ 65 (λ p. omega arith)
    (λ p. picked_le (eqb g.index 2) _ above 65 (λ o. picked_le (ltb g.bits 15) (65 - g.bits) (64 - g.bits) 65 (λ n. omega arith)
    (λ n. omega arith)) (λ o. l)))

priority_le : (p : Priority) → p.bits ≤ 31 → priority_of p ≤ 32
unfolding priority_of
priority_le p l = picked_le (set? p.bydefault) 32 p.bits 32 (λ q. omega arith) (λ q. omega arith)

distance_le : (d : Distance) → distance_of d ≤ 17
unfolding distance_of
distance_le d =
    picked_le (set? d.given) _ 0 17
    (λ q. picked_le (set? d.infinite) 1 _ 17 (λ p. omega arith) (λ p. entry_le 17 distance_codes d.index refl)) (λ q. omega arith)

clamped : (low high v : ℕ) → low ≤ high → between low high (clamp low high v) ≡ true
clamped low high v h = by-test (ltb v low)
    (λ q. rw q (always low high low (omega arith) h))
    (λ q. by-test (ltb high v)
    (λ p. rw (q, p) (always low high high h (omega arith)))
    (λ p. let a = ltb-false v low q in let b = ltb-false high v p in rw (q, p) (always low high v a b)))

clamped-location : (x y z distance : ℕ) → distance ≤ 17 → location_valid true (record { x = across x; y = across y; z = upright z; distance = distance }) ≡ true
unfolding location_valid between_if
clamped-location x y z distance l =
    whole _ _ (clamped 0 62 x (omega arith)) (whole _ _ (clamped 0 62 y (omega arith))
    (whole _ _ (clamped 49 79 z (omega arith)) (always 0 17 distance (omega arith) l)))

location-valid : (position : Position) (distance : ℕ) (before : Location) → distance ≤ 17 → location_valid true (location_of position distance before) ≡ true
unfolding location_of
location-valid (Absolute x y sign z) distance before l = clamped-location x y (height_of sign z) distance l
location-valid (Moved x y z) distance before l = clamped-location (moved_by before.x x) (moved_by before.y y) (moved_by before.z z) distance l

volume-valid : (e : Extent) → e.all ≤ 31 → e.width ≤ 31 → e.depth ≤ 31 → e.height ≤ 31 → volume_valid true (volume_of e) ≡ true
unfolding volume_valid volume_of between_if
volume-valid e a w d h = by-test (eqb e.index 2)
    (λ q. rw q (sizes e.width e.depth e.height w d h))
    (λ q. by-test (eqb e.index 1) (λ p. rw (q, p) (sizes e.all e.all e.all a a a))
    (λ p. rw (q, p) (sizes 0 0 0 (omega arith) (omega arith) (omega arith))))
  where
    sizes : (x y z : ℕ) → x ≤ 31 → y ≤ 31 → z ≤ 31 → (between 0 31 x and between 0 31 y and between 0 31 z) ≡ true
    sizes x y z i j k = whole _ _ (always 0 31 x (omega arith) i) (whole _ _ (always 0 31 y (omega arith) j) (always 0 31 z (omega arith) k))

-- ---- a scene

-- every value in the range of what can be sent: so are the defaults, and what a later block may take over
pub record Within (s : Scene) : Type 0 where
  pub gain : s.gain ≤ 65
  pub priority : s.priority ≤ 32
  pub location : location_valid true s.location ≡ true
  pub volume : volume_valid true s.volume ≡ true
  pub zone : zone_valid true s.zone ≡ true
  pub screen : screen_valid true s.screen ≡ true
  pub snap : s.snap ≤ 1

idle-within : (class : ℕ) → Within (idle class)
unfolding location_valid volume_valid zone_valid screen_valid between_if
idle-within class = record { gain = omega arith; priority = omega arith; location = refl; volume = refl; zone = refl; screen = refl; snap = omega arith }

by-status : {A : Type 0} (Q : A → Type 0) (status : Status) (sent : Bool) (default before value : A) → Q default → Q before → Q value
    → Q (value_of status sent default before value)
by-status Q Default sent default before value d b v = d
by-status Q Full sent default before value d b v = v
by-status Q Reuse sent default before value d b v = b
by-status Q Mixed true default before value d b v = v
by-status Q Mixed false default before value d b v = b

resolve-within : (before : Scene) (above class : ℕ) (b : Block) → Within before → above ≤ 65 → BlockRead class b → Within (resolve before above b)
unfolding resolve
resolve-within before above class b w l r =
    let d = idle-within class in
    let e = r.extent in
    record {
      gain = by-status (λ n. n ≤ 65) b.basic.status _ 0 before.gain _ d.gain w.gain (gain_le b.basic.gain above l);
      priority = by-status (λ n. n ≤ 32) b.basic.status _ 0 before.priority _ d.priority w.priority
          (priority_le b.basic.priority r.priority);
      location =
          by-status (λ p. location_valid true p ≡ true) b.render.status _ default_location before.location _ d.location w.location
          (location-valid b.render.position (distance_of b.render.distance) before.location (distance_le b.render.distance));
      volume =
          by-status (λ v. volume_valid true v ≡ true) b.render.status _ default_volume before.volume _ d.volume w.volume
          (volume-valid b.render.extent e.0 e.1 e.2 e.3);
      zone = by-status (λ z. zone_valid true z ≡ true) b.render.status _ default_zone before.zone b.render.zone d.zone w.zone r.zone;
      screen = by-status (λ s. screen_valid true s ≡ true) b.render.status _ default_screen before.screen b.render.screen d.screen w.screen
          r.screen;
      snap = by-status (λ n. n ≤ 1) b.render.status true 0 before.snap b.render.snap d.snap w.snap r.snap;
    }

-- a group that is valid where it is sent, and else the default
sent_or-default : {A : Type 0} (valid : Bool → A → Bool) (sent : Bool) (default v : A) → valid false default ≡ true → (sent ≡ true → valid true v ≡ true)
    → (sent ≡ false → v ≡ default) → valid sent v ≡ true
sent_or-default valid true default v u f g = f refl
sent_or-default valid false default v u f g = rw (g refl) u

defaults-valid : (location_valid false default_location ≡ true) × (volume_valid false default_volume ≡ true) × (zone_valid false default_zone ≡ true)
    × (screen_valid false default_screen ≡ true)
unfolding location_valid volume_valid zone_valid screen_valid between_if
defaults-valid = (refl, refl, refl, refl)

resolve-valid : (before : Scene) (above class : ℕ) (b : Block) → Within before → above ≤ 65 → BlockRead class b
    → scene_valid class (resolve before above b) ≡ true
unfolding scene_valid resolve
resolve-valid before above class b w l r =
    let s : Scene = resolve before above b in
    let n = resolve-within before above class b w l r in
    let off : carries s ≡ false → b.render.status ≡ Default = λ q. r.unsent (rw r.kind at q) in
    whole _ _ (always 0 1 b.active (omega arith) r.active)
    (whole _ _ (eq-eqb b.class class r.kind)
    (whole _ _ (is-ranged (set? b.active) 0 65 s.gain (λ q. omega arith) (λ q. n.gain) (λ q. rw (r.idle q) refl))
    (whole _ _ (is-ranged (set? b.active) 0 32 s.priority (λ q. omega arith) (λ q. n.priority) (λ q. rw (r.idle q) refl))
    (whole _ _ (sent_or-default location_valid (carries s) default_location s.location defaults-valid.0 (λ q. n.location) (λ q. rw (off q) refl))
    (whole _ _ (sent_or-default volume_valid (carries s) default_volume s.volume defaults-valid.1 (λ q. n.volume) (λ q. rw (off q) refl))
    (whole _ _ (sent_or-default zone_valid (carries s) default_zone s.zone defaults-valid.2 (λ q. n.zone) (λ q. rw (off q) refl))
    (whole _ _ (sent_or-default screen_valid (carries s) default_screen s.screen defaults-valid.3 (λ q. n.screen) (λ q. rw (off q) refl))
    (is-ranged (carries s) 0 1 s.snap (λ q. omega arith) (λ q. n.snap) (λ q. rw (off q) refl)))))))))

-- ---- the scenes of an object

-- each scene is valid by a class, and within what can be sent
abbrev Sound : ℕ → Scene → Type 0
Sound class s = (scene_valid class s ≡ true) × Within s

gain_above : (above : List Scene) → Every Within above → first_gain above ≤ 65
gain_above [] h = omega arith
gain_above (s ∷ ss) h = h.0.gain

above_next : (above : List Scene) → Every Within above → Every Within (behind_first above)
above_next [] h = tt
above_next (s ∷ ss) h = h.1

object-sound : (class : ℕ) (before : Scene) (above : List Scene) (bs : List Block) → Within before → Every Within above → Every (BlockRead class) bs
    → Every (Sound class) (scenes_from before above bs) × (length (scenes_from before above bs) ≡ length bs)
unfolding scenes_from
object-sound class before above [] w a h = (tt, refl)
object-sound class before above (b ∷ bs) w a h =
    let s : Scene = resolve before (first_gain above) b in
    let v = resolve-valid before (first_gain above) class b w (gain_above above a) h.0 in
    let n = resolve-within before (first_gain above) class b w (gain_above above a) h.0 in
    let rest = object-sound class s (behind_first above) bs n (above_next above a) h.1 in
    (((v, n), rest.0), ap suc rest.1)

-- ---- the scenes of all objects

-- each scene is valid by the class of its object, the indices counting from i
abbrev pub ScenesValid : Shares → ℕ → ℕ → List Scene → Type 0
ScenesValid s blocks i xs = ByClass scene_valid s blocks i xs

-- the blocks of an object, as they were read
pub record ObjectRead (s : Shares) (blocks j : ℕ) (o : List Block) : Type 0 where
  pub read : Every (BlockRead (class_of s j)) o
  pub long : length o ≡ blocks

module _ (s : Shares) (blocks : ℕ) where
  one-object : (j k : ℕ) (xs : List Scene) → Every (Sound (class_of s j)) xs → k + length xs ≤ blocks → ScenesValid s blocks (j * blocks + k) xs
  one-object j k [] h l = tt
  one-object j k (x ∷ xs) h l =
      let lt : k < blocks = omega arith in
      let e : suc (j * blocks + k) ≡ j * blocks + suc k = omega arith in
      (rw (digits_div j lt) h.0.0, rw e (one-object j (suc k) xs h.1 (omega arith)))

  joined : (i n : ℕ) (xs ys : List Scene) → ScenesValid s blocks i xs → length xs ≡ n → ScenesValid s blocks (i + n) ys → ScenesValid s blocks i (xs ++ ys)
  joined i n [] ys h l g = let e : i + n ≡ i = omega arith in rw e at g
  joined i n (x ∷ xs) ys h l g = let e : i + n ≡ suc i + length xs = omega arith in (h.0, joined (suc i) (length xs) xs ys h.1 refl (rw e at g))

  within_all : (class : ℕ) (xs : List Scene) → Every (Sound class) xs → Every Within xs
  within_all class [] h = tt
  within_all class (x ∷ xs) h = (h.0.1, within_all class xs h.1)

  pub all_valid : (j n : ℕ) (above : List Scene) (os : List (List Block)) → Every Within above → All (ObjectRead s blocks) (from j n) os
      → ScenesValid s blocks (j * blocks) (all_scenes above os) × (length (all_scenes above os) ≡ n * blocks)
  unfolding all_scenes scenes_of from
  all_valid j zero above [] a h = (tt, sym (zero-mul blocks))
  all_valid j zero above (o ∷ os) a h = absurd h
  all_valid j (suc n) above [] a h = absurd h
  all_valid j (suc n) above (o ∷ os) a h =
      let mine : List Scene = scenes_of above o in
      let x = object-sound (class_of s j) nothing_before above o (idle-within 0) a h.0.read in
      let l = h.0.long in
      let m : length mine ≡ blocks = x.1 ∙ l in
      let rest = all_valid (suc j) n mine os (within_all (class_of s j) mine x.0) h.1 in
      let z : j * blocks + 0 ≡ j * blocks = omega arith in
      let first : ScenesValid s blocks (j * blocks) mine = rw z at (one-object j 0 mine x.0 (omega arith)) in
      let k = rest.1 in
      let u = suc-mul n blocks in (
        joined (j * blocks) blocks mine (all_scenes mine os) first m (rw (suc-mul j blocks) at rest.0),
        length-append mine
            (all_scenes mine os) ∙ omega arith,
      )
