use Rattle.std.proofs.Common.{rules, ◌∙◌}
use Rattle.oamd.specs.Tables.{most_beds}
use Rattle.oamd.specs.Programme.{no_bed}
use Rattle.form.specs.Valid.{bed_valid}
use Rattle.valid.specs.Parts.{beds_valid}
use Rattle.valid.proofs.Entries.{tested, all_of_array}
use Rattle.valid.proofs.programme.beds_valid.Goals as goal

pub returns : goal.returns
unfolding beds_valid
returns c =
    c.all_below.ensures (tested bed_valid c.args.count c.args.beds no_bed) (λ i r h e. search rules) ∙ all_of_array bed_valid c.args.count c.args.beds no_bed most_beds (search rules)
