-- the updates read so far stand in the arrays, and reading the rest gives what reading all gave
use Rattle.catalogue.specs.Parts.{front}
use Rattle.catalogue.proofs.BackUpdates.{Going}
use Rattle.catalogue.proofs.sheets.read_updates.Given as goal

abbrev pub invariant-loop-blk : goal.invariant-loop-blk
invariant-loop-blk l = Going l.fn.r l.objects l.blocks (front l.fn.rows) l.r l.rows l.store l.updates l.blk
