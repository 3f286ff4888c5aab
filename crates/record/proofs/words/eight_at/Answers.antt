use Rattle.std.proofs.Common.{arith}
use Rattle.record.proofs.Times.{eight}
use Rattle.record.proofs.words.eight_at.Goals as goal

pub returns : goal.returns
returns c =
    eight (λ i. (c.type_inv.bytes i).fits) (omega (arith, c.from_le_bytes.ensures)) c.from_le_bytes.type_inv
