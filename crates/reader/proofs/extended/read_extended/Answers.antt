use Rattle.bits.specs.Language.{bit}
use Rattle.oamd.specs.Extended.{obj_div_block, no_divergence}
use Rattle.oamd.specs.Programme.{set?}
use Rattle.reader.specs.Steps.{PassedIf, with_divergence}
use Rattle.reader.proofs.Pass.{taken, passed, extending}
use Rattle.reader.proofs.extended.read_extended.Goals as goal
use Rattle.reader.proofs.extended.read_extended.Goals.{After-take-refined, then-diverging-eq1, else-diverging-eq1}

-- the divergence of each record, where it is sent
behind : (c : After-take-refined)
    → PassedIf (set? c.take-diverging.result.v) obj_div_block with_divergence no_divergence c.args.n (bit c.args.s.now) c.take-diverging.result c.args.l c.args.out.now c.if-diverging-eq1.behind c.if-diverging-eq1.out
behind c =
    elim c.if-diverging-eq1.branch [
      | then-diverging-eq1 w ↦ rw (w.out-is, w.behind-is) (taken _ _ w.if-diverging-eq1.true w.read_extras-behind.ensures)
      | else-diverging-eq1 w ↦ rw (w.out-is, w.behind-is) (passed _ _ w.if-diverging-eq1.false)
    ]

pub returns-then-refined-eq1 : goal.returns-then-refined-eq1
returns-then-refined-eq1 c =
    extending c.take-diverging.ensures.reads (behind (goal.at.returns-then-refined-eq1 c).After-take-refined) c.take-refined.ensures.reads
    (taken _ _ c.if-refined-eq1.true c.read_extras.ensures)

pub returns-else-refined-eq1 : goal.returns-else-refined-eq1
returns-else-refined-eq1 c =
    extending c.take-diverging.ensures.reads (behind (goal.at.returns-else-refined-eq1 c).After-take-refined) c.take-refined.ensures.reads
    (passed _ _ c.if-refined-eq1.false)
