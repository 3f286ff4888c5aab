use Rattle.bits.proofs.Sticky.{plain}
use Rattle.syntax.proofs.Lines.{◌▸◌, worth}
use Rattle.scenes.proofs.block.read_fields.Goals as goal

pub returns : goal.returns
returns c =
    let read = c.read_block-step.ensures in
    record { reads = read.reads ▸ worth c.resolved.ensures plain; empty = read.empty }
