use Rattle.text.proofs.LayLaws.{lay-then}
use Rattle.text.proofs.laying.lay_number.Goals as goal

pub returns : goal.returns
returns c =
    search lay-then
