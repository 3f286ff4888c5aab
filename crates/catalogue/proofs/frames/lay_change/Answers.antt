use Rattle.std.proofs.Common.{ap₂, ℕ}
use Rattle.text.proofs.LayLaws.{laid-bind, laid_is}
use Rattle.catalogue.specs.Text.{update_line}
use Rattle.catalogue.proofs.frames.lay_change.Goals as goal

pub returns : goal.returns
returns c =
    laid-bind (laid_is (ap₂ (λ (start ramp : ℕ). update_line start ramp) c.raw.ensures c.raw-2.ensures) c.lay_update_line-to.ensures)
    c.lay_entries.ensures
