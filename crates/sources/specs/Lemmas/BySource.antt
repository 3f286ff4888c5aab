-- A scene's bytes follow from their sources, whatever stands before and above the block.
use Rattle.std.specs.Prelude.{◌≡◌, refl, Bool, false, ℕ, zero, suc, ◌<◌, eqb, get_or}
use Rattle.std.proofs.Math.Bool.{true}
use Rattle.std.proofs.lemmas.Bool.{false≢true}
use Rattle.std.proofs.Common.{arith, eqb-true}
use Rattle.bits.specs.Language.{pick}
use Rattle.oamd.proofs.Seed.{Alone}
use Rattle.oamd.specs.declared.Status.{Status}
use Rattle.oamd.specs.declared.Status.TheVariants.{Default, Full, Reuse, Mixed}
use Rattle.oamd.specs.declared.Position.{Position}
use Rattle.oamd.specs.declared.Position.TheVariants.{Absolute, Moved}
use Rattle.oamd.specs.declared.Gain.{Gain}
use Rattle.oamd.specs.declared.Block.{Block}
use Rattle.oamd.specs.declared.Location.{Location}
use Rattle.oamd.specs.declared.Scene.{Scene}
use Rattle.oamd.specs.Programme.{set?}
use Rattle.oamd.specs.Block.{has_gain, has_priority, has_position, has_zone, has_size, has_screen}
use Rattle.oamd.specs.Meaning.{value_of, zero_db, gain_of, priority_of, distance_of, location_of, volume_of, idle, resolve, default_location, default_volume, default_zone, default_screen}
use Rattle.sources.specs.declared.Field.TheVariants.{GainIdx, GainBits}
use Rattle.sources.specs.declared.Source.{Source}
use Rattle.sources.specs.declared.Source.TheVariants.{ByField, ByBasicDefault, ByRenderDefault, ByNothing, ByBlock, ByObject}
use Rattle.sources.specs.Sources.{gain_source, priority_source, x_source, y_source, z_source, distance_source, size_source, screen_source, scene_sources}
use Rattle.sources.specs.Given.{scene_count, scene_byte, alone, Follows, field_gives}

-- ---- what is said of each number below n, listed

infixr 30 ◌▸◌
pub data Below : (ℕ → Type 0) → ℕ → Type 1 where
  all : {Q : ℕ → Type 0} → Below Q 0
  ◌▸◌ : {Q : ℕ → Type 0} {n : ℕ} → Q 0 → Below (λ k. Q (suc k)) n → Below Q (suc n)

pub listed : {Q : ℕ → Type 0} {n : ℕ} → Below Q n → (k : ℕ) → k < n → Q k
listed all k l = absurd (omega arith)
listed (h ▸ hs) zero l = h
listed (h ▸ hs) (suc k) l = listed hs k (omega arith)

-- ---- what a block takes from the block before

-- a value of such a status can be that of the block before
abbrev pub takes : Status → Bool
takes Default = false
takes Full = false
takes Reuse = true
takes Mixed = true

abbrev pub moves : Position → Bool
moves (Absolute x y sign z) = false
moves (Moved x y z) = true

-- a block with such a status or position in place of its own
abbrev pub with_basic : Status → Block → Block
with_basic status b = record {
  class = b.class;
  active = b.active;
  basic = record { status = status; parts = b.basic.parts; gain = b.basic.gain; priority = b.basic.priority };
  render = b.render;
}

abbrev pub with_render : Status → Position → Block → Block
with_render status position b = record {
  class = b.class;
  active = b.active;
  basic = b.basic;
  render = record {
    status = status;
    parts = b.render.parts;
    position = position;
    distance = b.render.distance;
    zone = b.render.zone;
    extent = b.render.extent;
    screen = b.render.screen;
    snap = b.render.snap;
  };
}

-- a block that takes nothing has neither
alone-basic : (status : Status) (b : Block) → Alone (with_basic status b) → takes status ≡ true → ⊥
alone-basic Default b h t = false≢true t
alone-basic Full b h t = false≢true t
alone-basic Reuse b h t = false≢true h.basic
alone-basic Mixed b h t = false≢true h.basic

alone-render : (status : Status) (position : Position) (b : Block) → Alone (with_render status position b) → takes status ≡ true → ⊥
alone-render Default position b h t = false≢true t
alone-render Full position b h t = false≢true t
alone-render Reuse position b h t = false≢true h.render
alone-render Mixed position b h t = false≢true h.render

alone-position : (status : Status) (position : Position) (b : Block) → Alone (with_render status position b) → moves position ≡ true → ⊥
alone-position status (Absolute x y sign z) b h t = false≢true t
alone-position status (Moved x y z) b h t = false≢true h.position

-- everything is sent
abbrev pub full : Block → Block
full b = with_basic Full (with_render Full b.render.position b)

-- ---- by the status

-- What Q says of a value in the block before, alone and now, and of its source, holds by the status, if it holds of the default, of the block before, and of what is sent. The value is
-- a part of something that the status governs as a whole.
by-status : {A : Type 0} (status : Status) (sent : Bool) (default : Source) (d before v w : A) (part : A → ℕ) (Q : ℕ → ℕ → ℕ → Source → Type 0) (x : Source)
    → Q (part before) (part d) (part d) default → (takes status ≡ true → Q (part before) (part d) (part before) ByBlock) → Q (part before) (part w) (part v) x
    → Q (part before) (part (value_of status sent d d w)) (part (value_of status sent d before v)) (value_of status sent default ByBlock x)
by-status Default sent default d before v w part Q x hd hb hx = hd
by-status Full sent default d before v w part Q x hd hb hx = hx
by-status Reuse sent default d before v w part Q x hd hb hx = hb refl
by-status Mixed true default d before v w part Q x hd hb hx = hx
by-status Mixed false default d before v w part Q x hd hb hx = hb refl

-- The same for all bytes of a scene; Q gets a byte's number, too.
module _ (Q : ℕ → ℕ → ℕ → ℕ → Source → Type 0) (before : Scene) (up : ℕ) (first : Bool) where
  abbrev pub Holds : Block → ℕ → Type 0
  Holds b byte = Q byte (scene_byte byte before) (scene_byte byte (alone b)) (scene_byte byte (resolve before up b)) (get_or (scene_sources first b) byte ByNothing)

  abbrev pub OfDefault : Source → Type 0
  OfDefault default = (byte : ℕ) → Q byte (scene_byte byte before) (scene_byte byte (idle 0)) (scene_byte byte (idle 0)) default

  abbrev pub OfBefore : Status → Type 0
  OfBefore status = takes status ≡ true → (byte : ℕ) → Q byte (scene_byte byte before) (scene_byte byte (idle 0)) (scene_byte byte before) ByBlock

  pub by-sources : (b : Block) → OfDefault ByBasicDefault → OfDefault ByRenderDefault → OfBefore b.basic.status → OfBefore b.render.status
      → ((byte : ℕ) → byte < scene_count → Holds (full b) byte) → (byte : ℕ) → byte < scene_count → Holds b byte
  unfolding resolve scene_sources
  by-sources b hb hr tb tr sent =
      let a = b.basic in
      let r = b.render in
      let gain = by-status a.status (has_gain a.parts) ByBasicDefault 0 before.gain (gain_of a.gain up) (gain_of a.gain zero_db) in
      let priority = by-status a.status (has_priority a.parts) ByBasicDefault 0 before.priority (priority_of a.priority) (priority_of a.priority) in
      let placed = location_of r.position (distance_of r.distance) in
      let location = by-status r.status (has_position r.parts) ByRenderDefault default_location before.location (placed before.location) (placed default_location) in
      let volume = by-status r.status (has_size r.parts) ByRenderDefault default_volume before.volume (volume_of r.extent) (volume_of r.extent) in
      let zone = by-status r.status (has_zone r.parts) ByRenderDefault default_zone before.zone r.zone r.zone in
      let screen = by-status r.status (has_screen r.parts) ByRenderDefault default_screen before.screen r.screen r.screen in
      let snap = by-status r.status true ByRenderDefault 0 before.snap r.snap r.snap in
      listed {Q = Holds b} {n = scene_count}
      (sent 0 (omega arith)
      ▸ sent 1 (omega arith)
      ▸ gain (λ v. v) (Q 2) _ (hb 2) (λ t. tb t 2) (sent 2 (omega arith))
      ▸ priority (λ v. v) (Q 3) _ (hb 3) (λ t. tb t 3) (sent 3 (omega arith))
      ▸ location (λ l. l.x) (Q 4) _ (hr 4) (λ t. tr t 4) (sent 4 (omega arith))
      ▸ location (λ l. l.y) (Q 5) _ (hr 5) (λ t. tr t 5) (sent 5 (omega arith))
      ▸ location (λ l. l.z) (Q 6) _ (hr 6) (λ t. tr t 6) (sent 6 (omega arith))
      ▸ location (λ l. l.distance) (Q 7) _ (hr 7) (λ t. tr t 7) (sent 7 (omega arith))
      ▸ volume (λ v. v.width) (Q 8) _ (hr 8) (λ t. tr t 8) (sent 8 (omega arith))
      ▸ volume (λ v. v.depth) (Q 9) _ (hr 9) (λ t. tr t 9) (sent 9 (omega arith))
      ▸ volume (λ v. v.height) (Q 10) _ (hr 10) (λ t. tr t 10) (sent 10 (omega arith))
      ▸ zone (λ z. z.index) (Q 11) _ (hr 11) (λ t. tr t 11) (sent 11 (omega arith))
      ▸ zone (λ z. z.elevation) (Q 12) _ (hr 12) (λ t. tr t 12) (sent 12 (omega arith))
      ▸ screen (λ s. s.used) (Q 13) _ (hr 13) (λ t. tr t 13) (sent 13 (omega arith))
      ▸ screen (λ s. s.factor) (Q 14) _ (hr 14) (λ t. tr t 14) (sent 14 (omega arith))
      ▸ screen (λ s. s.depth) (Q 15) _ (hr 15) (λ t. tr t 15) (sent 15 (omega arith))
      ▸ snap (λ v. v) (Q 16) _ (hr 16) (λ t. tr t 16) (sent 16 (omega arith))
      ▸ all)

-- ---- what is sent

-- what holds of two sources, by a test, holds of either
pub by-pick : (Q : Source → Type 0) (t : Bool) {x y : Source} → (t ≡ true → Q x) → (t ≡ false → Q y) → Q (pick t x y)
by-pick Q true hx hy = hx refl
by-pick Q false hx hy = hy refl

-- what holds of a gain by each index holds of every gain: Q gets the source, the gain alone and the gain now
pub by-gain : (Q : Source → ℕ → ℕ → Type 0) (g : Gain) (first : Bool) (up : ℕ)
    → (eqb g.index 1 ≡ false → Q (ByField GainIdx) zero_db zero_db) → (eqb g.index 1 ≡ true → Q (ByField GainIdx) 0 0)
    → ((v : ℕ) → v ≡ field_gives GainBits g.bits 0 → Q (ByField GainBits) v v) → (first ≡ true → eqb g.index 1 ≡ false → Q (ByField GainIdx) zero_db up)
    → (first ≡ false → Q ByObject zero_db up) → Q (gain_source first g) (gain_of g zero_db) (gain_of g up)
unfolding gain_source gain_of
by-gain Q g first up h0 h1 h2 h3 h4 = go (eqb g.index 0) (eqb g.index 1) (eqb g.index 2) first refl refl refl
  where
    v : ℕ
    v = field_gives GainBits g.bits 0

    go : (t u w f : Bool) → eqb g.index 0 ≡ t → eqb g.index 1 ≡ u → first ≡ f
        → Q (pick t (ByField GainIdx) (pick u (ByField GainIdx) (pick w (ByField GainBits) (pick f (ByField GainIdx) ByObject))))
        (pick t zero_db (pick u 0 (pick w v zero_db))) (pick t zero_db (pick u 0 (pick w v up)))
    go true u w f e0 e1 e = h0 (rw (eqb-true g.index 0 e0))
    go false true w f e0 e1 e = h1 e1
    go false false true f e0 e1 e = h2 v refl
    go false false false true e0 e1 e = h3 e e1
    go false false false false e0 e1 e = h4 e

location-follows : (p : Position) (distance : ℕ) (behind beside : Type 0) (up : ℕ) (before idle : Location) → (moves p ≡ true → behind)
    → Follows behind beside 4 before.x up (location_of p distance idle).x (location_of p distance before).x (x_source p)
    × Follows behind beside 5 before.y up (location_of p distance idle).y (location_of p distance before).y (y_source p)
    × Follows behind beside 6 before.z up (location_of p distance idle).z (location_of p distance before).z (z_source p)
    × ((location_of p distance before).distance ≡ (location_of p distance idle).distance)
unfolding location_of x_source y_source z_source
location-follows (Absolute x y sign z) distance behind beside up before idle h = (refl, refl, refl, refl)
location-follows (Moved x y z) distance behind beside up before idle h = ((h refl, refl, refl), (h refl, refl, refl), (h refl, refl, refl), refl)

-- ---- bytes 0 to 16

-- There is a block before unless this one takes nothing from it, and an object before unless this is the first, with 0 dB above it.
pub scene-follows : (before : Scene) (up : ℕ) (first : Bool) (b : Block) → (first ≡ true → up ≡ zero_db) → (byte : ℕ) → byte < scene_count
    → Follows (Alone b → ⊥) (first ≡ false) byte (scene_byte byte before) up (scene_byte byte (alone b)) (scene_byte byte (resolve before up b))
    (get_or (scene_sources first b) byte ByNothing)
unfolding resolve scene_sources priority_source distance_source size_source screen_source
scene-follows before up first b h =
    let r = b.render in
    let Q : ℕ → ℕ → ℕ → ℕ → Source → Type 0 = λ byte past own now x. Follows (Alone b → ⊥) (first ≡ false) byte past up own now x in
    let p = location-follows r.position (distance_of r.distance) (Alone b → ⊥) (first ≡ false) up before.location default_location (λ t h. alone-position _ _ b h t) in
    by-sources Q before up first b (λ byte. refl) (λ byte. refl) (λ t byte. ((λ h. alone-basic _ b h t), refl)) (λ t byte. ((λ h. alone-render _ _ b h t), refl))
    (listed {n = scene_count}
    (refl
    ▸ refl
    ▸ by-gain (λ x own now. Q 2 before.gain own now x) b.basic.gain first up (λ e. refl) (λ e. refl) (λ v e. refl) (λ f e. h f) (λ f. (f, refl, refl))
    ▸ by-pick (Q 3 _ _ _) (set? b.basic.priority.bydefault) (λ q. refl) (λ q. refl)
    ▸ p.0
    ▸ p.1
    ▸ p.2
    ▸ by-pick (Q 7 _ _ _) (set? r.distance.given) (λ q. by-pick (Q 7 _ _ _) (set? r.distance.infinite) (λ q. p.3) (λ q. p.3)) (λ q. p.3)
    ▸ by-pick (Q 8 _ _ _) (eqb r.extent.index 2) (λ q. refl) (λ q. by-pick (Q 8 _ _ _) (eqb r.extent.index 1) (λ q. refl) (λ q. refl))
    ▸ by-pick (Q 9 _ _ _) (eqb r.extent.index 2) (λ q. refl) (λ q. by-pick (Q 9 _ _ _) (eqb r.extent.index 1) (λ q. refl) (λ q. refl))
    ▸ by-pick (Q 10 _ _ _) (eqb r.extent.index 2) (λ q. refl) (λ q. by-pick (Q 10 _ _ _) (eqb r.extent.index 1) (λ q. refl) (λ q. refl))
    ▸ refl
    ▸ refl
    ▸ refl
    ▸ by-pick (Q 14 _ _ _) (set? r.screen.used) (λ q. refl) (λ q. refl)
    ▸ by-pick (Q 15 _ _ _) (set? r.screen.used) (λ q. refl) (λ q. refl)
    ▸ refl
    ▸ all))
