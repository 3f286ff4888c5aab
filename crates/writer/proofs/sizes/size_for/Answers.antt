use Rattle.std.proofs.Common.{rules}
use Rattle.form.specs.Form.{size_for}
use Rattle.writer.proofs.sizes.size_for.Goals as goal

pub returns : goal.returns
unfolding size_for
returns c =
    search rules
