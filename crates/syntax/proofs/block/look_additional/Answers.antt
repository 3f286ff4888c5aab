use Rattle.std.proofs.Common.{arith, eq-eqb, ne_eqb, refl}
use Rattle.bits.proofs.Free.{free-give, free-field}
use Rattle.oamd.specs.Block.{additional_table_data}
use Rattle.syntax.proofs.Glances.{entered, behind, there, ◌⊳◌}
use Rattle.syntax.proofs.block.look_additional.Goals as goal

pub returns-then-exists-eq1 : goal.returns-then-exists-eq1
unfolding additional_table_data
returns-then-exists-eq1 c =
    let new = c.new.ensures in
    let sees = c.window-x.ensures.1 in
    let e0 = c.look-exists.ensures.1 in
    let e1 = c.look_if-size.ensures.1 in
    record {
      freely = λ g.
          there e0.looks sees (entered new) refl
          ⊳ there e1.looks sees refl (behind _ new)
          ⊳ rw (eq-eqb _ _ c.if-exists-eq1.true) (free-field refl);
      near = omega (arith, e0.near, e1.near, e1.small);
    }

pub returns-else-exists-eq1 : goal.returns-else-exists-eq1
unfolding additional_table_data
returns-else-exists-eq1 c =
    let new = c.new.ensures in
    let sees = c.window-x.ensures.1 in
    let e0 = c.look-exists.ensures.1 in
    let e1 = c.look_if-size.ensures.1 in
    record {
      freely = λ g.
          there e0.looks sees (entered new) refl
          ⊳ there e1.looks sees refl (behind _ new)
          ⊳ rw (ne_eqb _ _ c.if-exists-eq1.false) free-give;
      near = omega (arith, e0.near, e1.near);
    }
