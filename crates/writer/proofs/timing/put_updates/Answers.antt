use Rattle.std.proofs.Common.{arith, rules}
use Rattle.oamd.specs.Timing.{no_update}
use Rattle.form.specs.Coded.{coded_update}
use Rattle.form.specs.Form.{update_bits}
use Rattle.laying.proofs.Laws.{laid_is, laid-within}
use Rattle.writer.specs.Most.{most_update}
use Rattle.writer.proofs.Entries.{entry_bits, entries_bits}
use Rattle.writer.proofs.Widths.{at_most}
use Rattle.writer.proofs.timing.put_updates.Goals as goal

pub put_each-requires-clause-parts : goal.put_each-requires-clause-parts
put_each-requires-clause-parts c = record {
  most = most_update;
  bits = entry_bits (λ i u. update_bits (coded_update u)) c.args.updates no_update;
  parts = record { each = λ i r h e. at_most {i = 1} (search rules) };
  widest = omega arith;
  room = omega arith;
}

pub returns : goal.returns
returns c =
    laid_is (entries_bits (λ i u. update_bits (coded_update u)) c.args.updates no_update c.args.n (search rules))
    (laid-within (omega arith) (c.put_each.ensures most_update (entry_bits (λ i u. update_bits (coded_update u)) c.args.updates no_update) (record { each = λ i r h e. at_most {i = 1} (search rules) })))
