use Rattle.std.proofs.Common.{arith, refl, ◌%◌, ◌+◌, ◌-◌, ◌≤◌}
use Rattle.bits.proofs.Free.{free-give}
use Rattle.oamd.specs.Block.{object_render_info}
use Rattle.syntax.proofs.Glances.{entered, behind, there, ◌⊳◌}
use Rattle.scenes.proofs.Far.{more, whole}
use Rattle.scenes.proofs.Taken.{each-good}
use Rattle.scenes.proofs.render.full_shown.Goals as goal
use Rattle.scenes.proofs.render.full_shown.Goals.{After-look-snap}

far : (c : After-look-snap)
    → let start = c.args in
    let at = start.base + c.look_distance-d.result.off in
    at - at % 8 + c.look-snap.result.off ≤ start.base + start.o + 56
far c =
    whole _ _ _ (omega (arith, c.look_position-p.ensures.near, c.look_distance-d.ensures.near))
    (more _ c.look_zone-z.ensures.near c.look_extent-e.ensures.near c.look_screen-n.ensures.near c.look-snap.ensures.1.near)

pub returns : goal.returns
unfolding object_render_info
returns c =
    let new = c.new.ensures in
    let position = c.look_position-p.ensures in
    let distance = c.look_distance-d.ensures in
    let sees = c.requires.sees in
    let sees-2 = c.window-y.ensures.1 in
    record {
      coded = _;
      held = record {
        freely = λ g.
            let good = each-good _ _ g in
            free-give
            ⊳ there position.looks sees refl refl
            ⊳ there distance.looks sees refl refl
            ⊳ there (c.look_zone-z.ensures.looks good.0) sees-2 (entered new) refl
            ⊳ there (c.look_extent-e.ensures.looks good.1) sees-2 refl refl
            ⊳ there c.look_screen-n.ensures.looks sees-2 refl refl
            ⊳ there c.look-snap.ensures.1.looks sees-2 refl (behind _ new)
            ⊳ free-give;
        near = far (goal.at.returns c).After-look-snap;
      };
      means = rw (c.location_of.ensures, c.distance_of.ensures, c.volume_of.ensures);
    }
