-- What stands before block 0 of an object is not looked at: its blocks, as they are read, mean the same scenes whatever stands there. Assumes nothing.
use mathlib.Core.Path.{◌≡◌, refl, ap, ◌∙◌}
use mathlib.Core.Bool.{Bool, true, false, not, false≢true}
use mathlib.Core.List.{List, ◌∷◌}
use Prim.Native.Nat.{ℕ, zero, suc}
use lib.Dec.{eqb}
use Rattle.bits.specs.Language.{pick, each, from}
use Rattle.bits.specs.Ensures.{e-give, e-bind, e-any, e-then, e-pick}
use Rattle.bits.specs.Terms.{Ensures}
use Rattle.oamd.specs.declared.Status.{Status}
use Rattle.oamd.specs.declared.Status.TheVariants.{Default, Full, Reuse, Mixed}
use Rattle.oamd.specs.declared.Position.{Position}
use Rattle.oamd.specs.declared.Position.TheVariants.{Absolute, Moved}
use Rattle.oamd.specs.declared.Block.{Block}
use Rattle.oamd.specs.declared.Location.{Location}
use Rattle.oamd.specs.declared.Scene.{Scene}
use Rattle.oamd.specs.Programme.{set?, dynamic_class}
use Rattle.oamd.specs.Block.{status_idx, object_basic_info, coordinates, position, object_render_info, object_info_block, has_gain, has_priority, has_position, has_zone, has_size, has_screen}
use Rattle.oamd.specs.ObjectElement.{object_data}
use Rattle.oamd.specs.Meaning.{value_of, gain_of, priority_of, distance_of, location_of, volume_of, default_location, default_volume, default_zone, default_screen}
use Rattle.oamd.specs.Meaning.{resolve, first_gain, behind_first, scenes_from}

-- a status by which no value is that of the block before
abbrev own : Status → Bool
own Default = true
own Full = true
own Reuse = false
own Mixed = false

abbrev absolute : Position → Bool
absolute (Absolute x y sign z) = true
absolute (Moved x y z) = false

-- a block that takes nothing from the block before
pub record Alone (b : Block) : Type 0 where
  pub basic : own b.basic.status ≡ true
  pub render : own b.render.status ≡ true
  pub position : absolute b.render.position ≡ true

-- ---- what such a block means

value-alone : {A : Type 0} (status : Status) (sent : Bool) (default v v' value : A) → own status ≡ true
    → value_of status sent default v value ≡ value_of status sent default v' value
value-alone Default sent default v v' value h = refl
value-alone Full sent default v v' value h = refl
value-alone Reuse sent default v v' value h = absurd (false≢true h)
value-alone Mixed sent default v v' value h = absurd (false≢true h)

location-alone : (p : Position) (distance : ℕ) (l l' : Location) → absolute p ≡ true → location_of p distance l ≡ location_of p distance l'
unfolding location_of
location-alone (Absolute x y sign z) distance l l' h = refl
location-alone (Moved x y z) distance l l' h = absurd (false≢true h)

pub first_alone : (s s' : Scene) (gain : ℕ) (b : Block) → Alone b → resolve s gain b ≡ resolve s' gain b
unfolding resolve
first_alone s s' gain b h =
    let a = b.basic in
    let n = b.render in
    let location =
    value-alone n.status (has_position n.parts) default_location s.location s'.location _ h.render
    ∙ ap (value_of n.status (has_position n.parts) default_location s'.location)
    (location-alone n.position (distance_of n.distance) s.location s'.location h.position) in
    λ i. record {
      active = b.active;
      class = b.class;
      gain = value-alone a.status (has_gain a.parts) 0 s.gain s'.gain (gain_of a.gain gain) h.basic i;
      priority = value-alone a.status (has_priority a.parts) 0 s.priority s'.priority (priority_of a.priority) h.basic i;
      location = location i;
      volume = value-alone n.status (has_size n.parts) default_volume s.volume s'.volume (volume_of n.extent) h.render i;
      zone = value-alone n.status (has_zone n.parts) default_zone s.zone s'.zone n.zone h.render i;
      screen = value-alone n.status (has_screen n.parts) default_screen s.screen s'.screen n.screen h.render i;
      snap = value-alone n.status true 0 s.snap s'.snap n.snap h.render i;
    }

-- ---- block 0, as it is read

first-status : (none : Bool) → Ensures (status_idx none true) (λ status. own status ≡ true)
unfolding status_idx
first-status none = e-pick none _ _ _ (λ q. e-give _ _ refl) (λ q. e-give _ _ refl)

basic-status : (status : Status) → Ensures (object_basic_info status) (λ b. b.status ≡ status)
unfolding object_basic_info
basic-status status =
    e-bind _ _ _ (e-any _ _ λ parts.
    e-bind _ _ _ (e-any _ _ λ index.
    e-bind _ _ _ (e-any _ _ λ gain.
    e-bind _ _ _ (e-any _ _ λ bydefault.
    e-bind _ _ _ (e-any _ _ λ priority.
    e-give _ _ refl)))))

first-position : (on : Bool) → Ensures (position on true) (λ p. absolute p ≡ true)
unfolding position coordinates
first-position false = e-bind _ _ _ (e-give _ _ (e-give _ _ refl))
first-position true =
    e-bind _ _ _ (e-give _ _
    (e-bind _ _ _ (e-any _ _ λ x.
    e-bind _ _ _ (e-any _ _ λ y.
    e-bind _ _ _ (e-any _ _ λ sign.
    e-bind _ _ _ (e-any _ _ λ z.
    e-give _ _ refl))))))

first-render : (status : Status) → Ensures (object_render_info status true) (λ r. (r.status ≡ status) × (absolute r.position ≡ true))
unfolding object_render_info
first-render status =
    e-bind _ _ _ (e-any _ _ λ parts.
    e-bind _ _ _ (e-then _ _ _ (first-position (has_position parts)) λ p h.
    e-bind _ _ _ (e-any _ _ λ distance.
    e-bind _ _ _ (e-any _ _ λ zone.
    e-bind _ _ _ (e-any _ _ λ extent.
    e-bind _ _ _ (e-any _ _ λ screen.
    e-bind _ _ _ (e-any _ _ λ snap.
    e-give _ _ (refl, h))))))))

pub block_0-alone : (class : ℕ) → Ensures (object_info_block class 0) Alone
unfolding object_info_block
block_0-alone class =
    e-bind _ _ _ (e-any _ _ λ inactive.
    e-bind _ _ _ (e-then _ _ _ (first-status (set? inactive)) λ status own-basic.
    e-bind _ _ _ (e-then _ _ _ (basic-status status) λ basic same.
    e-bind _ _ _ (e-then _ _ _ (first-status (pick (set? inactive) true (not (eqb class dynamic_class)))) λ status' own-render.
    e-bind _ _ _ (e-then _ _ _ (first-render status') λ render g.
    e-bind _ _ _ (e-any _ _ λ additional.
    e-give _ _ (record { basic = ap own same ∙ own-basic; render = ap own g.0 ∙ own-render; position = g.1 })))))))

-- ---- the blocks of an object

pub seed_not-looked_at : (n class : ℕ)
    → Ensures (object_data n class) (λ bs. (s s' : Scene) (object_before : List Scene) → scenes_from s object_before bs ≡ scenes_from s' object_before bs)
unfolding object_data each from scenes_from
seed_not-looked_at zero class = e-give _ _ λ s s' object_before. refl
seed_not-looked_at (suc n) class =
    e-bind _ _ _ (e-then _ _ _ (block_0-alone class) λ b h.
    e-bind _ _ _ (e-any _ _ λ bs.
    e-give _ _ λ s s' object_before.
    ap (λ (x : Scene). x ∷ scenes_from x (behind_first object_before) bs) (first_alone s s' (first_gain object_before) b h)))
