use Rattle.std.proofs.Common.{arith, rules}
use Rattle.oamd.specs.Programme.{no_bed}
use Rattle.form.specs.Form.{bed_bits}
use Rattle.laying.proofs.Laws.{laid_is, laid-within}
use Rattle.writer.specs.Most.{most_bed}
use Rattle.writer.proofs.Entries.{entry_bits, entries_bits}
use Rattle.writer.proofs.Widths.{at_most}
use Rattle.writer.proofs.header.put_bed_list.Goals as goal

pub put_each-requires-clause-parts : goal.put_each-requires-clause-parts
put_each-requires-clause-parts c = record {
  most = most_bed;
  bits = entry_bits (λ i b. bed_bits b) c.args.beds no_bed;
  parts = record { each = λ i r h e. at_most {i = 1} (search rules) };
  widest = omega arith;
  room = omega arith;
}

pub returns : goal.returns
returns c =
    laid_is (entries_bits (λ i b. bed_bits b) c.args.beds no_bed c.args.n (search rules))
    (laid-within (omega arith) (c.put_each.ensures most_bed (entry_bits (λ i b. bed_bits b) c.args.beds no_bed) (record { each = λ i r h e. at_most {i = 1} (search rules) })))
