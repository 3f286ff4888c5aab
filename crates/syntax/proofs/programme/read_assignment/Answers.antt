-- The step's fields are those of the beds that were read, so the programme is the definition's.
use Rattle.std.proofs.Common.{refl}
use Rattle.bits.proofs.Sticky.{plain}
use Rattle.oamd.specs.Programme.{program_assignment}
use Rattle.syntax.proofs.Lines.{◌▸◌}
use Rattle.syntax.proofs.programme.read_assignment.Goals as goal

pub returns : goal.returns
unfolding program_assignment
returns c =
    let b = c.read_beds-b.ensures in (
      refl,
      record {
        reads = c.take-dynonly.ensures.reads
            ▸ c.take_if-lfe.ensures.reads
            ▸ c.take_if-content.ensures.reads
            ▸ b.reads
            ▸ c.read_isf-isf.ensures.reads
            ▸ c.read_dynamics-dynamics.ensures.reads
            ▸ c.pass_reserved.ensures.reads
            ▸ rw (b.distributes, b.multiplies, b.numbers, b.counts, b.holds) plain;
        empty = c.pass_reserved.ensures.empty;
      },
    )
