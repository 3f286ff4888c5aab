use Rattle.text.specs.Listing.{table_lines}
use Rattle.text.proofs.LayLaws.{laid-bind}
use Rattle.text.proofs.listing.lay_tables.Goals as goal

pub returns : goal.returns
unfolding table_lines
returns c =
    laid-bind c.lay_shares-to.ensures
    (laid-bind c.lay_line-to.ensures (laid-bind c.lay_line-to-2.ensures (laid-bind c.lay_updates-to.ensures c.lay_objects.ensures)))
