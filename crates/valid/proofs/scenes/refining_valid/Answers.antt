use Rattle.form.specs.Valid.{between_if, precise_valid}
use Rattle.valid.proofs.Limits.{or-zeros}
use Rattle.valid.proofs.scenes.refining_valid.Goals as goal

pub returns-then-p-eq0 : goal.returns-then-p-eq0
unfolding precise_valid between_if
returns-then-p-eq0 c =
    let p = c.args.p in rw (or-zeros p.x p.y p.z, c.if-p-eq0.true)
