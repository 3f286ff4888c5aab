use Rattle.std.proofs.Common.{rules, ◌∙◌}
use Rattle.oamd.specs.Tables.{most_blocks}
use Rattle.oamd.specs.Timing.{no_update}
use Rattle.form.specs.Valid.{update_valid}
use Rattle.valid.specs.Parts.{updates_valid}
use Rattle.valid.proofs.Entries.{tested, all_of_array}
use Rattle.valid.proofs.timing.updates_valid.Goals as goal

pub returns : goal.returns
unfolding updates_valid
returns c =
    c.all_below.ensures (tested (update_valid c.args.offset.0) c.args.blocks c.args.updates no_update) (λ i r h e. search rules) ∙ all_of_array (update_valid c.args.offset.0) c.args.blocks c.args.updates no_update most_blocks (search rules)
