use Rattle.std.proofs.Common.{ap}
use Rattle.catalogue.specs.Answer.{none_before}
use Rattle.catalogue.specs.Sheets.{zeros}
use Rattle.catalogue.specs.Calls.{without_before, cataloguing_alone}
use Rattle.catalogue.proofs.writing.write_catalogue.Goals as goal

pub returns : goal.returns
unfolding cataloguing_alone none_before zeros
returns c =
    ap without_before c.write_catalogue_on.ensures
