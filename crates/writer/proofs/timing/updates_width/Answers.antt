use Rattle.std.proofs.Common.{arith, rules}
use Rattle.oamd.specs.Timing.{no_update}
use Rattle.form.specs.Coded.{coded_update}
use Rattle.form.specs.Form.{update_bits}
use Rattle.writer.specs.Most.{most_update}
use Rattle.writer.proofs.Entries.{entry_bits, entries_bits}
use Rattle.writer.proofs.Widths.{at_most, wide_is, wide-within}
use Rattle.writer.proofs.timing.updates_width.Goals as goal

pub returns : goal.returns
returns c =
    wide_is (entries_bits (λ i u. update_bits (coded_update u)) c.args.updates no_update c.args.n (search rules))
    (wide-within (omega arith)
    (c.each_width.ensures most_update (entry_bits (λ i u. update_bits (coded_update u)) c.args.updates no_update) (record { each = λ i r h e. at_most {i = 1} (search rules) }) (omega arith)))
