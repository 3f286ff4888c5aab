use Rattle.std.proofs.Common.{arith, sym}
use Rattle.text.proofs.LayLaws.{laid_nil, laid_is}
use Rattle.catalogue.proofs.WriteLines.{entry_none, entry-laid}
use Rattle.catalogue.proofs.entries.lay_entry.Goals as goal

pub returns-then-not-has_changes : goal.returns-then-not-has_changes
returns-then-not-has_changes c =
    let a = c.args in
    laid_is (sym (entry_none a.full a.before.now a.rows.now a.j _ c.has_changes.ensures c.if-not-has_changes.true)) (laid_nil (omega arith) (omega arith))

pub returns : goal.returns
returns c =
    let a = c.args in
    entry-laid a.full a.before.now a.rows.now a.j _ c.has_changes.ensures c.if-not-has_changes.false c.lay_bytes-to.ensures
    c.lay_decimal-to.ensures c.lay_changes-to.ensures c.lay_byte.ensures
