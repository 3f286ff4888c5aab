use Rattle.sources.proofs.ToBlock.{element-there, block-found}
use Rattle.sources.proofs.walk.find_block.Goals as goal

pub unwrap-inside-requires : goal.unwrap-inside-requires
unwrap-inside-requires c = element-there c.requires c.read_head-head.ensures c.find_fields.ensures

pub returns : goal.returns
returns c =
    block-found c.requires c.read_head-head.ensures c.find_fields.ensures c.unwrap-inside.ensures c.read_timing-timed.ensures c.take-absent.ensures.reads
    c.take_if-reserved.ensures.reads c.shares-shares.ensures.0 c.pass_objects-before.ensures c.class_of-class.ensures c.pass_blocks-begun.ensures
    c.read_block-step.ensures c.raw.ensures
