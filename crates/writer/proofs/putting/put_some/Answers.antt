use Rattle.std.proofs.Common.{ap, arith, sym, ℕ, ◌∙◌}
use Rattle.bits.specs.Writes.{to_bits}
use Rattle.laying.proofs.Laws.{laid_is, laid_nil, laid-within}
use Rattle.writer.proofs.putting.put_some.Goals as goal

pub returns-then-raw-eq0 : goal.returns-then-raw-eq0
unfolding to_bits
returns-then-raw-eq0 c =
    laid_is (ap (λ (w : ℕ). to_bits w c.args.packed.value) (sym c.if-raw-eq0.true ∙ c.raw.ensures)) (laid-within (omega arith) laid_nil)
