use Rattle.std.proofs.Common.{arith, eq-eqb, ne_eqb, ◌+◌}
use Rattle.bits.proofs.Free.{looks-give, ◌▹◌}
use Rattle.oamd.specs.Block.{screen}
use Rattle.syntax.proofs.Glances.{sent, unsent, slot, last}
use Rattle.syntax.proofs.view.look_screen.Goals as goal

pub returns-then-used-eq1 : goal.returns-then-used-eq1
unfolding screen
returns-then-used-eq1 c =
    let o = c.args.o in
    let e = c.look-q.ensures.0 in
    record {
      looks = slot o 0 1 5 o (o + 1) e (omega arith) (omega arith) (omega arith)
          ▹ sent (eq-eqb _ _ c.if-used-eq1.true) (slot o 1 3 2 (o + 1) (o + 4) e (omega arith) (omega arith) (omega arith))
          ▹ sent (eq-eqb _ _ c.if-used-eq1.true) (last o 4 2 (o + 4) e (omega arith) (omega arith))
          ▹ looks-give;
      near = c.look-q.ensures.1.near;
    }

pub returns : goal.returns
unfolding screen
returns c =
    let o = c.args.o in
    let e = c.look-q.ensures.0 in
    record {
      looks = slot o 0 1 5 o (o + 1) e (omega arith) (omega arith) (omega arith) ▹ unsent 3 (ne_eqb _ _ c.if-used-eq1.false) ▹ unsent 2 (ne_eqb _ _ c.if-used-eq1.false) ▹ looks-give;
      near = omega arith;
    }
