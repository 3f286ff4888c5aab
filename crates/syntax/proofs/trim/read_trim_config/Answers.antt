use Rattle.bits.proofs.Sticky.{plain, emptied}
use Rattle.oamd.specs.Trim.{trim_config}
use Rattle.syntax.proofs.Lines.{◌▸◌}
use Rattle.syntax.proofs.trim.read_trim_config.Goals as goal

pub returns : goal.returns
unfolding trim_config
returns c =
    let tb = rw c.has_tb.ensures at c.read_balance-tb.ensures in
    let lis = rw c.has_lis.ensures at c.read_balance-lis.ensures in
    emptied c.with_value.ensures
    (c.take-bydefault.ensures.reads
    ▸ c.take_if-disabled.ensures.reads
    ▸ c.take_if-presence.ensures.reads
    ▸ (rw c.has_centre.ensures at c.take_if-centre.ensures.reads)
    ▸ (rw c.has_surround.ensures at c.take_unless-surround.ensures.reads)
    ▸ (rw c.has_height.ensures at c.take_unless-height.ensures.reads)
    ▸ tb.sign
    ▸ tb.amount
    ▸ lis.sign
    ▸ lis.amount
    ▸ plain)
