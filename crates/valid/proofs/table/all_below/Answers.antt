use Rattle.std.proofs.Common.{◌≡◌, refl, ap, ◌∙◌, arith}
use native.Mathlib.Numerals.{add-one}
use Rattle.valid.specs.Parts.{all_below}
use Rattle.valid.proofs.table.all_below.Goals as goal

pub loop-i-init : goal.loop-i-init
unfolding all_below
loop-i-init g c = λ good h. refl

pub loop-i-preserved : goal.loop-i-preserved
unfolding all_below
loop-i-preserved g c = λ good h. rw (add-one c.loop-i.i, c.loop-i.invariant good h, h c.loop-i.i _ c.loop-i-test.true c.valid-all.ensures) refl

pub returns : goal.returns
returns g c = λ good h. let e : c.loop-i.i ≡ c.args.n = omega arith in c.loop-i.invariant good h ∙ ap (all_below good) e
