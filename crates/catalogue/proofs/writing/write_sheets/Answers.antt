-- the length first, then the room, then the text
use Rattle.std.proofs.Common.{ap, arith, length, ◌<◌, ◌^◌, ◌∙◌}
use Rattle.catalogue.specs.declared.CatalogueAnswer.{CatalogueAnswer}
use Rattle.catalogue.specs.Parts.{sheets_on}
use Rattle.catalogue.proofs.WriteWhole.{gives, no_room, fits}
use Rattle.catalogue.proofs.writing.write_sheets.Goals as goal
use Rattle.catalogue.proofs.writing.write_sheets.Goals.{Start}

-- a buffer is shorter than the last position that there is
text-short : (c : Start) → length c.args.text.now < 2 ^ 63
text-short c = omega arith

pub returns-then-text-needed : goal.returns-then-text-needed
returns-then-text-needed c =
    let a = c.args in
    ap (λ (r : CatalogueAnswer). gives r a.before.now a.text.now) c.refused.ensures
    ∙ no_room a.before.now a.text.now (sheets_on a.shelf.now) (text-short (goal.at.returns-then-text-needed c).Start) _ c.measure-needed.ensures c.if-text-needed.true

pub returns : goal.returns
returns c =
    let a = c.args in
    fits a.before.now a.text.now (sheets_on a.shelf.now) (text-short (goal.at.returns c).Start) _ c.measure-needed.ensures _ _ c.if-text-needed.false c.lay_all.ensures
