use Rattle.std.proofs.Common.{ap, arith, replicate, ℕ, ◌∙◌}
use Rattle.laying.proofs.Laws.{laid_is, laid-within, zeros-to_bits}
use Rattle.writer.proofs.putting.put_zeros.Goals as goal

pub returns : goal.returns
returns c =
    laid_is (zeros-to_bits _ ∙ ap (λ (n : ℕ). replicate n 0) c.raw-w.ensures) (laid-within (omega arith) c.put.ensures)
