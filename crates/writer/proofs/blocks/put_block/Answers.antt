use Rattle.std.proofs.Common.{arith, sym, ◌∙◌}
use Rattle.laying.proofs.Laws.{laid_is, laid-within}
use Rattle.writer.proofs.Parts.{block-full, block-short}
use Rattle.writer.proofs.Widths.{packed-laid}
use Rattle.writer.proofs.blocks.put_block.Goals as goal

pub returns-then-carries : goal.returns-then-carries
returns-then-carries c =
    let a = c.args in
    laid_is (block-full a.first a.s (sym c.if-carries.true ∙ c.carries.ensures)) c.put_full.ensures

pub returns-else-carries : goal.returns-else-carries
returns-else-carries c =
    let a = c.args in
    laid_is (block-short a.first a.s (sym c.if-carries.false ∙ c.carries.ensures))
    (laid-within (omega arith) (packed-laid c.short.ensures c.put_packed.ensures))
