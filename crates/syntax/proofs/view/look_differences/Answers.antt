use Rattle.std.proofs.Common.{arith, ◌+◌}
use Rattle.bits.proofs.Free.{looks-give, ◌▹◌}
use Rattle.oamd.specs.Block.{differences}
use Rattle.syntax.proofs.Glances.{slot, last}
use Rattle.syntax.proofs.view.look_differences.Goals as goal

pub returns : goal.returns
unfolding differences
returns c =
    let o = c.args.o in
    let e = c.look-q.ensures.0 in
    record {
      looks = slot o 0 3 6 o (o + 3) e (omega arith) (omega arith) (omega arith)
          ▹ slot o 3 3 3 (o + 3) (o + 6) e (omega arith) (omega arith) (omega arith)
          ▹ last o 6 3 (o + 6) e (omega arith) (omega arith)
          ▹ looks-give;
      near = c.look-q.ensures.1.near;
    }
