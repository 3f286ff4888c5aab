use Rattle.std.proofs.Common.{arith, refl, rules}
use Rattle.bits.specs.Language.{from}
use Rattle.catalogue.specs.Scan.{run}
use Rattle.catalogue.specs.Back.{sheet_back}
use Rattle.catalogue.specs.Sheets.{rows_behind}
use Rattle.catalogue.proofs.BackSheets.{refused_last}
use Rattle.catalogue.proofs.sheets.read_sheet.Goals as goal

pub returns-in_err-refusal : goal.returns-in_err-refusal
unfolding run sheet_back
returns-in_err-refusal c =
    let refused = refused_last c.in_ok-frame.field-0 c.read_refusal.result c.in-Some.next c.read_refusal.new.r c.read_refusal.ensures in
    record { read = search rules; last = search rules; objects = search rules; blocks = search rules }

pub returns : goal.returns
unfolding run sheet_back rows_behind from
returns c =
    let refused = refused_last c.in_ok-frame.field-0 c.read_refusal.result c.in-Some.next c.read_refusal.new.r c.read_refusal.ensures in
    rw c.refused_page.ensures (record { read = search rules; last = refl; objects = omega arith; blocks = omega arith })
