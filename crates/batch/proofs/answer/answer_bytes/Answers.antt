-- `answer_bytes` meets its contract: its parts, one behind the other (`Whole.antt`). Assumes nothing.
use Rattle.std.proofs.Common.{refl}
use Rattle.batch.proofs.Whole.{whole}
use Rattle.batch.proofs.answer.answer_bytes.Goals as goal

pub returns : goal.returns
returns c =
    whole _ c.to_le_bytes.ensures c.to_le_bytes-2.ensures refl c.lay.ensures c.lay-2.ensures c.lay-3.ensures c.lay-4.ensures c.store_each.ensures
    c.lay-5.ensures c.store_each-2.ensures c.lay-6.ensures c.lay-7.ensures
