use Rattle.text.proofs.LayLaws.{laid-bind}
use Rattle.catalogue.specs.BackCalls.{line_of}
use Rattle.catalogue.proofs.lending.lay_line.Goals as goal

pub returns : goal.returns
unfolding line_of
returns c =
    laid-bind c.lay_least-to.ensures
    (laid-bind c.lay_byte-to.ensures
    (laid-bind c.lay_byte-to-2.ensures (laid-bind c.lay_byte-to-3.ensures (laid-bind c.lay_byte-to-4.ensures c.lay_updates.ensures))))
