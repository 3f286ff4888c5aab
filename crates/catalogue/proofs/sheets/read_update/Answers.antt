-- the line, and then the entries applied to the rows in front of the array
use Rattle.std.proofs.Common.{ap₂, rules, ℕ, ◌∙◌}
use Rattle.catalogue.specs.Scan.{got, run}
use Rattle.catalogue.specs.Back.{update_back}
use Rattle.catalogue.specs.Parts.{rows_of}
use Rattle.catalogue.proofs.BackRows.{change, entries-rows}
use Rattle.catalogue.proofs.sheets.read_update.Goals as goal

pub returns-in_err-read_entries-clause-change : goal.returns-in_err-read_entries-clause-change
unfolding run update_back
returns-in_err-read_entries-clause-change c =
    let t = c.take_rows-full.ensures in
    let entries = entries-rows c.in_ok-start.start c.in_ok-ramp.ramp _ _ _ c.take_rows-full.new.rows _ c.read_entries.result c.take_end.new.self c.read_entries.new.r t.fills t.here t.count c.read_entries.ensures in
    search rules

pub returns-clause-change : goal.returns-clause-change
unfolding run update_back
returns-clause-change c =
    let t = c.take_rows-full.ensures in
    let entries = entries-rows c.in_ok-start.start c.in_ok-ramp.ramp _ _ _ c.take_rows-full.new.rows _ c.read_entries.result c.take_end.new.self c.read_entries.new.r t.fills t.here t.count c.read_entries.ensures in
    ap₂ (λ (start ramp : ℕ). got (change start ramp (rows_of c.take_rows-full.new.rows.count.n c.read_entries.new.rows)) c.read_entries.new.r.line c.read_entries.new.r.rest.now)
    c.new.ensures c.new-2.ensures ∙ search rules
