use Rattle.std.proofs.Common.{Bool, false, ne_eqb, refl, rules, true, ◌≡◌}
use Rattle.bits.specs.Language.{pick}
use Rattle.oamd.specs.Tables.{bed_labels, nonstd_labels}
use Rattle.oamd.specs.Programme.{set?, labels, bed_objects}
use Rattle.meaning.proofs.Choice.{tests}
use Rattle.meaning.proofs.programme.bed_objects.Goals as goal

-- no flag is set in 0
unlabelled : (t : Bool) → 0 ≡ pick t (labels 10 0 bed_labels 0) (labels 17 0 nonstd_labels 0)
unfolding labels
unlabelled true = refl
unlabelled false = refl

pub returns-then-b-eq1 : goal.returns-then-b-eq1
unfolding bed_objects
returns-then-b-eq1 c = search tests

pub returns-then-b-eq0 : goal.returns-then-b-eq0
unfolding bed_objects
returns-then-b-eq0 c =
    (rw (ne_eqb _ _ c.if-b-eq1.false, c.if-b-eq0.true) (unlabelled (set? c.args.b.standard)), search rules)

pub returns-then-b-eq1-2 : goal.returns-then-b-eq1-2
unfolding bed_objects
returns-then-b-eq1-2 c = search tests

pub returns : goal.returns
unfolding bed_objects
returns c = search tests
