use Rattle.std.proofs.Common.{arith, sym, ◌∙◌}
use Rattle.writer.proofs.Parts.{block-full, block-short}
use Rattle.writer.proofs.Widths.{wide-bind, wide_is, wide-within, packed-wide}
use Rattle.writer.proofs.blocks.block_width.Goals as goal

pub returns-then-carries : goal.returns-then-carries
returns-then-carries c =
    let a = c.args in
    wide_is (block-full a.first a.s (sym c.if-carries.true ∙ c.carries.ensures))
    (wide-bind (packed-wide c.fore.ensures) (packed-wide c.aft.ensures) (omega arith) c.plus.ensures)

pub returns-else-carries : goal.returns-else-carries
returns-else-carries c =
    let a = c.args in
    wide_is (block-short a.first a.s (sym c.if-carries.false ∙ c.carries.ensures)) (wide-within (omega arith) (packed-wide c.short.ensures))
