use Rattle.catalogue.specs.Parts.{front}
use Rattle.catalogue.proofs.WriteSheets.{sheet-refused, sheet-accepted}
use Rattle.catalogue.proofs.frames.lay_sheet.Goals as goal

pub returns-then-a-ne0 : goal.returns-then-a-ne0
returns-then-a-ne0 c =
    let a = c.args in sheet-refused a.frame a.a a.records.now a.latest.now c.if-a-ne0.true (c.requires.blocks_value c.if-a-ne0.true) c.lay_refused.ensures

pub returns : goal.returns
returns c =
    let a = c.args in sheet-accepted a.frame a.a a.records.now (front a.latest.now) c.if-a-ne0.false c.lay_accepted-to.ensures c.lay_updates.ensures
