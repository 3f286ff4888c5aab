use Rattle.text.specs.Lines.{line}
use Rattle.text.proofs.LayLaws.{lay-then}
use Rattle.text.proofs.laying.lay_line.Goals as goal

pub returns : goal.returns
unfolding line
returns c =
    search lay-then
