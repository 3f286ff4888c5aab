use Rattle.std.proofs.Common.{Bool, arith, not, refl, ℕ, ◌||◌, ◌%◌, ◌+◌, ◌-◌, ◌≤◌}
use Rattle.bits.proofs.Free.{free-give}
use Rattle.oamd.specs.declared.Render.{Render}
use Rattle.oamd.specs.declared.Status.TheVariants.{Mixed}
use Rattle.oamd.specs.Block.{position, distance, zone, extent, screen, object_render_info}
use Rattle.syntax.proofs.Glances.{entered, behind, there, ◌⊳◌}
use Rattle.scenes.proofs.Far.{more, whole}
use Rattle.scenes.proofs.Taken.{each-good, near_if, good_if, taken, taken-behind}
use Rattle.scenes.proofs.Unsent.{no-position, no_distance_lem, no-zone, no-extent, no-screen, sent_alone, mixed-means}
use Rattle.scenes.proofs.render.mixed_shown.Goals as goal
use Rattle.scenes.proofs.render.mixed_shown.Goals.{After-look-snap}

-- ---- how far the looks have come

-- where the second window is opened
abbrev at : After-look-snap → ℕ
at c = c.args.base + c.pick.result

first-far : (c : After-look-snap) → c.pick.result ≤ c.args.o + 28
first-far c =
    let parts = c.look-parts in
    let both : c.look_distance-d.result.off ≤ parts.result.off + 24 = omega (arith, c.look_position-p.ensures.near, c.look_distance-d.ensures.near) in
    omega (arith, parts.ensures.1.near, near_if c.has_position.ensures _ _ c.pick.ensures both)

zone-far : (c : After-look-snap) → c.pick-extent_off.result ≤ at c % 8 + 4
zone-far c = near_if c.has_zone-zoned.ensures _ _ c.pick-extent_off.ensures c.look_zone-z.ensures.near

size-far : (c : After-look-snap) → c.pick-screen_off.result ≤ c.pick-extent_off.result + 17
size-far c = near_if c.has_size-sized.ensures _ _ c.pick-screen_off.ensures c.look_extent-e.ensures.near

screen-far : (c : After-look-snap) → c.pick-snap_off.result ≤ c.pick-screen_off.result + 6
screen-far c = near_if c.has_screen.ensures _ _ c.pick-snap_off.ensures c.look_screen-n.ensures.near

far : (c : After-look-snap)
    → at c - at c % 8 + c.look-snap.result.off ≤ c.args.base + c.args.o + 56
far c =
    whole _ _ _ (first-far c) (more _ (zone-far c) (size-far c) (screen-far c) c.look-snap.ensures.1.near)

pub returns : goal.returns
unfolding object_render_info
returns c =
    let new = c.new.ensures in
    let position-seen = c.look_position-p.ensures in
    let parts = c.look-parts.ensures.1 in
    let sees = c.requires.sees in
    let sees-2 = c.window-y.ensures.1 in
    let told = c.has_position.ensures in
    let zone-told = c.has_zone-zoned.ensures in
    let size-told = c.has_size-sized.ensures in
    let screen-told = c.has_screen.ensures in
    let looked : Render = record {
      status = Mixed;
      parts = c.look-parts.result.value;
      position = c.look_position-p.result.value;
      distance = c.look_distance-d.result.value;
      zone = c.look_zone-z.result.value;
      extent = c.look_extent-e.result.value;
      screen = c.look_screen-n.result.value;
      snap = c.look-snap.result.value;
    } in
    record {
      coded = sent_alone looked;
      held = record {
        freely = λ g.
            let good = each-good (not c.has_zone-zoned.result || c.look_zone-z.result.good) (not c.has_size-sized.result || c.look_extent-e.result.good) g in
            there parts.looks sees refl refl
            ⊳ there (taken told (λ (on : Bool). position on c.args.first) refl (λ h. position-seen.looks) (no-position _)) sees refl refl
            ⊳ there (taken-behind told distance c.pick.ensures c.look_distance-d.ensures.looks no_distance_lem) sees refl refl
            ⊳ there (taken zone-told zone c.pick-extent_off.ensures (λ h. c.look_zone-z.ensures.looks (good_if zone-told good.0 h)) no-zone)
            sees-2 (entered new) refl
            ⊳ there (taken size-told extent c.pick-screen_off.ensures (λ h. c.look_extent-e.ensures.looks (good_if size-told good.1 h)) no-extent)
            sees-2 refl refl
            ⊳ there (taken screen-told screen c.pick-snap_off.ensures (λ h. c.look_screen-n.ensures.looks) no-screen) sees-2 refl refl
            ⊳ there c.look-snap.ensures.1.looks sees-2 refl (behind _ new)
            ⊳ free-give;
        near = far (goal.at.returns c).After-look-snap;
      };
      means =
          rw (c.mixed_shown.ensures, c.location_of.ensures, c.distance_of.ensures, c.volume_of.ensures)
          (mixed-means c.args.before looked);
    }
