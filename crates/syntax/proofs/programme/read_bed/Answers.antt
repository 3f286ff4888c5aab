use Rattle.bits.proofs.Sticky.{plain}
use Rattle.oamd.specs.Programme.{bed_assignment}
use Rattle.syntax.proofs.Lines.{◌▸◌}
use Rattle.syntax.proofs.programme.read_bed.Goals as goal

pub returns : goal.returns
unfolding bed_assignment
returns c =
    c.take-lfe.ensures.reads
    ▸ c.take_if-standard.ensures.reads
    ▸ c.take_if-usual.ensures.reads
    ▸ c.take_if-other.ensures.reads
    ▸ plain
