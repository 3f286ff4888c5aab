use Rattle.std.proofs.Common.{ap}
use Rattle.catalogue.specs.Answer.{none_before}
use Rattle.catalogue.specs.Sheets.{zeros}
use Rattle.catalogue.specs.Calls.{back_without_before, reading_back_alone}
use Rattle.catalogue.proofs.reading.read_catalogue.Goals as goal

pub returns : goal.returns
unfolding reading_back_alone none_before zeros
returns c =
    ap back_without_before c.read_catalogue_on.ensures
