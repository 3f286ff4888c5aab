use Rattle.std.proofs.Common.{arith}
use Rattle.meaning.proofs.Sums.{clear, label-sum, set, whole}
use Rattle.meaning.proofs.programme.standard_labels.Goals as goal
use Rattle.meaning.proofs.programme.standard_labels.Goals.{else-flag, then-flag}

pub loop-k-preserved : goal.loop-k-preserved
loop-k-preserved c =
    let before = c.loop-k.invariant in
    let e = c.flag.ensures in
    elim c.if-flag.branch [ then-flag w ↦ set _ _ before (omega arith) e w.if-flag.true (omega arith) (omega arith) | else-flag w ↦ clear _ _ before (omega arith) e w.if-flag.false (omega arith) ]

pub returns : goal.returns
returns c = whole (label-sum _ _) c.loop-k.invariant (omega arith)
