use Rattle.std.proofs.Common.{arith, ◌+◌}
use Rattle.bits.proofs.Free.{looks-give, ◌▹◌}
use Rattle.oamd.specs.Block.{zone}
use Rattle.oamd.specs.Reserved.{ZoneConstraintsIdx}
use Rattle.syntax.proofs.Glances.{fair, shut, slot, last}
use Rattle.syntax.proofs.view.look_zone.Goals as goal

pub returns : goal.returns
unfolding zone
returns c =
    let o = c.args.o in
    let e = c.look-q.ensures.0 in
    let code = slot o 0 3 1 o (o + 3) e (omega arith) (omega arith) (omega arith) in
    record {
      looks = λ g. fair ZoneConstraintsIdx code g ▹ last o 3 1 (o + 3) e (omega arith) (omega arith) ▹ looks-give;
      met = λ g. shut ZoneConstraintsIdx code _ g (omega arith);
      near = c.look-q.ensures.1.near;
    }
