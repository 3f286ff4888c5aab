use Rattle.std.proofs.Common.{arith, eq-eqb, ne_eqb, ◌+◌}
use Rattle.bits.proofs.Free.{looks-give, ◌▹◌}
use Rattle.oamd.specs.Block.{distance}
use Rattle.syntax.proofs.Glances.{sent, unsent, both_hold, first-fails, second-fails, slot, last}
use Rattle.syntax.proofs.view.look_distance.Goals as goal

pub returns-then-infinite-eq0 : goal.returns-then-infinite-eq0
unfolding distance
returns-then-infinite-eq0 c =
    let o = c.args.o in
    let e = c.look-q.ensures.0 in
    record {
      looks = slot o 0 1 5 o (o + 1) e (omega arith) (omega arith) (omega arith)
          ▹ sent (eq-eqb _ _ c.if-given-eq1.true) (slot o 1 1 4 (o + 1) (o + 2) e (omega arith) (omega arith) (omega arith))
          ▹ sent (both_hold (eq-eqb _ _ c.if-given-eq1.true) (eq-eqb _ _ c.if-infinite-eq0.true)) (last o 2 4 (o + 2) e (omega arith) (omega arith))
          ▹ looks-give;
      near = c.look-q.ensures.1.near;
    }

pub returns-else-infinite-eq0 : goal.returns-else-infinite-eq0
unfolding distance
returns-else-infinite-eq0 c =
    let o = c.args.o in
    let e = c.look-q.ensures.0 in
    record {
      looks = slot o 0 1 5 o (o + 1) e (omega arith) (omega arith) (omega arith)
          ▹ sent (eq-eqb _ _ c.if-given-eq1.true) (slot o 1 1 4 (o + 1) (o + 2) e (omega arith) (omega arith) (omega arith))
          ▹ unsent 4 (second-fails (eq-eqb _ _ c.if-given-eq1.true) (ne_eqb _ _ c.if-infinite-eq0.false))
          ▹ looks-give;
      near = omega arith;
    }

pub returns-else-given-eq1 : goal.returns-else-given-eq1
unfolding distance
returns-else-given-eq1 c =
    let o = c.args.o in
    let e = c.look-q.ensures.0 in
    record {
      looks = slot o 0 1 5 o (o + 1) e (omega arith) (omega arith) (omega arith) ▹ unsent 1 (ne_eqb _ _ c.if-given-eq1.false) ▹ unsent 4 (first-fails _ (ne_eqb _ _ c.if-given-eq1.false)) ▹ looks-give;
      near = omega arith;
    }
