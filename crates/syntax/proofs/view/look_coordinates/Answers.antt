use Rattle.std.proofs.Common.{arith, ◌+◌}
use Rattle.bits.proofs.Free.{looks-give, ◌▹◌}
use Rattle.oamd.specs.Block.{coordinates}
use Rattle.syntax.proofs.Glances.{slot, last}
use Rattle.syntax.proofs.view.look_coordinates.Goals as goal

pub returns : goal.returns
unfolding coordinates
returns c =
    let o = c.args.o in
    let e = c.look-q.ensures.0 in
    record {
      looks = slot o 0 6 11 o (o + 6) e (omega arith) (omega arith) (omega arith)
          ▹ slot o 6 6 5 (o + 6) (o + 12) e (omega arith) (omega arith) (omega arith)
          ▹ slot o 12 1 4 (o + 12) (o + 13) e (omega arith) (omega arith) (omega arith)
          ▹ last o 13 4 (o + 13) e (omega arith) (omega arith)
          ▹ looks-give;
      near = c.look-q.ensures.1.near;
    }
