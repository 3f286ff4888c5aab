use Rattle.std.proofs.Common.{ℕ}
use Rattle.std.proofs.lemmas.List.{length-replicate}
use Rattle.sources.proofs.Came.{came-read, there-asked}
use Rattle.outside.proofs.tests.told.Goals as goal

pub told_at-requires : goal.told_at-requires
told_at-requires c =
    let read = came-read c.args.payload.now _ _ _ _ _ (length-replicate {A = ℕ} _ 0) (length-replicate {A = ℕ} _ 0) c.read-a.ensures c.if-a-ne0.false in
    (there-asked read _ _ 0 c.if-a-object.false c.if-blocks-block.false, read.recorded, c.if-byte.false)
