use Rattle.std.proofs.Common.{rules}
use Rattle.bits.proofs.Sticky.{reading}
use Rattle.oamd.specs.Payload.{object_count}
use Rattle.syntax.proofs.header.read_object_count.Goals as goal

pub returns : goal.returns
unfolding object_count
returns c =
    record { reads = search reading; small = rw c.with_value.ensures (search rules) }
