use Rattle.std.proofs.Common.{arith, rules}
use Rattle.oamd.specs.Programme.{no_bed}
use Rattle.form.specs.Form.{bed_bits}
use Rattle.writer.specs.Most.{most_bed}
use Rattle.writer.proofs.Entries.{entry_bits, entries_bits}
use Rattle.writer.proofs.Widths.{at_most, wide_is, wide-within}
use Rattle.writer.proofs.header.bed_list_width.Goals as goal

pub returns : goal.returns
returns c =
    wide_is (entries_bits (λ i b. bed_bits b) c.args.beds no_bed c.args.n (search rules))
    (wide-within (omega arith)
    (c.each_width.ensures most_bed (entry_bits (λ i b. bed_bits b) c.args.beds no_bed) (record { each = λ i r h e. at_most {i = 1} (search rules) }) (omega arith)))
