use Rattle.bits.proofs.Sticky.{plain}
use Rattle.oamd.specs.Block.{object_info_block}
use Rattle.syntax.proofs.Lines.{◌▸◌, either-of}
use Rattle.syntax.proofs.block.read_block.Goals as goal

pub returns : goal.returns
unfolding object_info_block
returns c =
    record {
      reads = c.take-idle.ensures.reads
          ▸ c.read_status-level.ensures
          ▸ c.read_basic-basic.ensures
          ▸ (rw (either-of _ _) at c.read_status-shown.ensures)
          ▸ c.read_render-render.ensures
          ▸ c.pass_additional.ensures.reads
          ▸ plain;
      empty = c.pass_additional.ensures.empty;
    }
