use Rattle.std.proofs.Common.{arith, refl}
use Rattle.bits.proofs.Free.{looks-give}
use Rattle.oamd.specs.declared.Status.TheVariants.{Default, Reuse}
use Rattle.scenes.proofs.Unsent.{no_basic, no-basic}
use Rattle.scenes.proofs.basic.levels_in.Goals as goal

pub returns-in-Default : goal.returns-in-Default
returns-in-Default c =
    rw c.in-Default.is (record { coded = no_basic Default; held = record { looks = no-basic Default looks-give; near = omega arith }; means = refl })

pub returns-in-Reuse : goal.returns-in-Reuse
returns-in-Reuse c =
    rw c.in-Reuse.is (record { coded = no_basic Reuse; held = record { looks = no-basic Reuse looks-give; near = omega arith }; means = refl })
