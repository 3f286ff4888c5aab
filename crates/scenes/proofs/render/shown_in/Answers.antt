use Rattle.std.proofs.Common.{arith, refl}
use Rattle.bits.proofs.Free.{looks-give}
use Rattle.oamd.specs.declared.Status.TheVariants.{Default, Reuse}
use Rattle.syntax.proofs.Glances.{there}
use Rattle.scenes.proofs.Unsent.{no_render, no-render}
use Rattle.scenes.proofs.render.shown_in.Goals as goal

pub returns-in-Default : goal.returns-in-Default
returns-in-Default c =
    rw c.in-Default.is
    (record {
      coded = no_render Default;
      held = record { freely = λ g. there (no-render Default _ looks-give looks-give) c.requires.sees refl refl; near = omega arith };
      means = c.default_shown.ensures;
    })

pub returns-in-Reuse : goal.returns-in-Reuse
returns-in-Reuse c =
    rw c.in-Reuse.is
    (record {
      coded = no_render Reuse;
      held = record { freely = λ g. there (no-render Reuse _ looks-give looks-give) c.requires.sees refl refl; near = omega arith };
      means = c.shown_before.ensures;
    })
