use Rattle.std.proofs.Common.{◌∙◌}
use Rattle.laying.proofs.Laws.{laid-bind, laid_is}
use Rattle.writer.proofs.Heads.{timing-parts}
use Rattle.writer.proofs.Widths.{packed-laid}
use Rattle.writer.proofs.timing.put_timing.Goals as goal

pub returns : goal.returns
returns c =
    laid_is (timing-parts c.args.timing (c.raw-first.ensures ∙ c.sample_offset.ensures))
    (laid-bind (packed-laid c.lead.ensures c.put_packed-next.ensures) c.put_updates.ensures)
