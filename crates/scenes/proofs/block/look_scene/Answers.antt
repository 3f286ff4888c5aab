use Rattle.std.proofs.Common.{ap, arith, refl, subst, ℕ, ◌%◌, ◌*◌, ◌-◌, ◌/◌, ◌≡◌}
use Rattle.bits.specs.declared.Sighted.{Sighted}
use Rattle.bits.specs.Language.{P, bit}
use Rattle.bits.specs.View.{Sees, Looks}
use Rattle.bits.proofs.Free.{looks-give, free-give}
use Rattle.oamd.specs.declared.Status.TheVariants.{Default}
use Rattle.oamd.specs.Block.{status_idx, object_info_block}
use Rattle.oamd.specs.Meaning.{resolve}
use Rattle.syntax.proofs.Glances.{there, ◌⊳◌}
use Rattle.scenes.proofs.Unsent.{no-basic, no-render}
use Rattle.scenes.proofs.block.look_scene.Goals as goal
use Rattle.scenes.proofs.block.look_scene.Goals.{After-window-x}

-- the window, from the byte of the position on
sees : (c : After-window-x) → let p = c.raw-p.result in Sees c.window-x.result (bit c.args.s.now) (p - p % 8)
sees c =
    let p = c.raw-p.result in
    let e : 8 * (c.args.at.0 / 8) ≡ p - p % 8 = omega (arith, c.raw-p.ensures) in
    subst (λ (k : ℕ). Sees c.window-x.result (bit c.args.s.now) k) e c.window-x.ensures.1

-- the value of a field, by what a test told of it
told : {p : P ℕ} {x o v w off : ℕ} → v ≡ w → Looks p x o v off → Looks p x o w off
told e s = rw e at s

pub returns-then-idle-eq1 : goal.returns-then-idle-eq1
unfolding status_idx object_info_block resolve
returns-then-idle-eq1 c =
    let look = c.look-idle.ensures in
    let seen = sees (goal.at.returns-then-idle-eq1 c).After-window-x in
    record {
      coded = _;
      held = λ g.
          there (told c.if-idle-eq1.true look.1.looks) seen (omega (arith, c.raw-p.ensures)) refl
          ⊳ free-give
          ⊳ there (no-basic Default looks-give) seen refl refl
          ⊳ free-give
          ⊳ there (no-render Default _ looks-give looks-give) seen refl (omega (arith, ap (λ (s : Sighted ℕ). s.off) look.0))
          ⊳ c.look_additional.ensures.freely refl
          ⊳ free-give;
      means = c.idle.ensures;
    }

pub returns : goal.returns
unfolding object_info_block resolve
returns c =
    let seen = sees (goal.at.returns c).After-window-x in
    let zero : c.look-idle.result.value ≡ 0 = omega (arith, c.look-idle.ensures.1.small, c.if-idle-eq1.false) in
    let low = c.levels_in-b.ensures in
    let high = c.shown_in-n.ensures in
    record {
      coded = _;
      held = λ g.
          there (told zero c.look-idle.ensures.1.looks) seen (omega (arith, c.raw-p.ensures)) refl
          ⊳ there c.look_status-basic.ensures.looks seen refl refl
          ⊳ there low.held.looks seen refl refl
          ⊳ there c.look_status-render.ensures.looks seen refl refl
          ⊳ high.held.freely g
          ⊳ c.look_additional-2.ensures.freely refl
          ⊳ free-give;
      means = rw (c.active_scene.ensures, low.means, high.means);
    }
