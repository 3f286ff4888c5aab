use Rattle.oamd.specs.Block.{additional_table_data}
use Rattle.syntax.proofs.Lines.{◌▸◌}
use Rattle.syntax.proofs.block.pass_additional.Goals as goal

pub returns : goal.returns
unfolding additional_table_data
returns c =
    let g = rw c.new.ensures at c.skip_if.ensures in
    record { reads = c.take-exists.ensures.reads ▸ c.take_if-size.ensures.reads ▸ g.reads; empty = g.empty }
