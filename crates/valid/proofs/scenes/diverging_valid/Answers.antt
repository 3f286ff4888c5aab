use Rattle.form.specs.Valid.{between_if, divergence_valid}
use Rattle.valid.proofs.Limits.{or-zero}
use Rattle.valid.proofs.scenes.diverging_valid.Goals as goal

pub returns-then-d-eq0 : goal.returns-then-d-eq0
unfolding divergence_valid between_if
returns-then-d-eq0 c =
    let d = c.args.d in rw (or-zero d.mode d.value, c.if-d-eq0.true)
