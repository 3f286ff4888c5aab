use Rattle.std.proofs.Common.{append_assoc, arith, take, ◌∙◌}
use Rattle.bits.specs.Writes.{each_bits}
use Rattle.coding.specs.Packing.{head_bits, tail_bits}
use Rattle.form.specs.Form.{bed_bits}
use Rattle.writer.proofs.Heads.{header-parts}
use Rattle.writer.proofs.Widths.{wide-bind, wide_is, packed-wide}
use Rattle.writer.proofs.header.header_width.Goals as goal

pub returns : goal.returns
returns c =
    let p = c.args.programme in
    wide_is (append_assoc (head_bits p) (each_bits (λ i b. bed_bits b) 0 (take p.bedcount p.beds)) (tail_bits p) ∙ header-parts p)
    (wide-bind (wide-bind (packed-wide c.head.ensures) c.bed_list_width-list.ensures (omega arith) c.plus.ensures) (packed-wide c.tail.ensures) (omega arith)
    c.plus-2.ensures)
