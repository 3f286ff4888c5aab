use Rattle.oamd.specs.Tables.{bed_labels}
use Rattle.meaning.proofs.Sums.{SoFar, labels_from}
use Rattle.meaning.proofs.programme.standard_labels.Given as goal

-- `standard_labels` meets its contract: before index k, the sum and the labels from k on make all labels (`Sums.antt`). Assumes nothing.
abbrev pub invariant-loop-k : goal.invariant-loop-k
invariant-loop-k t =
    SoFar (labels_from 10 t.v) 2 bed_labels t.sum t.k
