use Rattle.std.proofs.Common.{rules}
use Rattle.bits.proofs.Sticky.{reading}
use Rattle.oamd.specs.Payload.{oa_element_count}
use Rattle.syntax.proofs.header.read_element_count.Goals as goal

pub returns : goal.returns
unfolding oa_element_count
returns c =
    record { reads = search reading; small = rw c.with_value.ensures (search rules) }
