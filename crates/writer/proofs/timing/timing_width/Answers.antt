use Rattle.std.proofs.Common.{arith, ◌∙◌}
use Rattle.writer.proofs.Heads.{timing-parts}
use Rattle.writer.proofs.Widths.{wide-bind, wide_is, packed-wide}
use Rattle.writer.proofs.timing.timing_width.Goals as goal

pub returns : goal.returns
returns c =
    wide_is (timing-parts c.args.timing (c.raw-first.ensures ∙ c.sample_offset.ensures))
    (wide-bind (packed-wide c.lead.ensures) c.updates_width.ensures (omega arith) c.plus.ensures)
