use Rattle.std.proofs.Common.{◌∙◌}
use Rattle.writer.proofs.Trims.{flags-count}
use Rattle.writer.proofs.trim.flags_width.Goals as goal

pub returns : goal.returns
returns c =
    flags-count c.args.sent c.args.trim.now c.args.objects (c.new.ensures ∙ c.pick.ensures)
