use Rattle.std.proofs.Common.{arith, refl}
use Rattle.bits.proofs.Free.{held}
use Rattle.bits.proofs.Sticky.{plain}
use Rattle.syntax.proofs.Lines.{◌▸◌, worth}
use Rattle.scenes.proofs.block.read_scene.Goals as goal

pub returns-then-look : goal.returns-then-look
returns-then-look c =
    let made = c.look_scene-look.ensures in
    record {
      reads = held (made.held c.if-look.true) c.if-c-eq0.true (omega (arith, c.raw-then-raw-le4000000000.ensures)) c.new.ensures ▸ worth made.means plain;
      empty = refl;
    }
