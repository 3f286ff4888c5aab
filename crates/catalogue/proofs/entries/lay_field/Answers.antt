use Rattle.text.proofs.LayLaws.{laid-bind}
use Rattle.catalogue.proofs.entries.lay_field.Goals as goal

pub returns : goal.returns
returns c =
    laid-bind c.lay_byte-to.ensures (laid-bind c.lay_name-to.ensures c.lay_decimal.ensures)
