use Rattle.std.proofs.Common.{arith, ap, sum, sym, take, ℕ, ◌∙◌}
use Rattle.std.proofs.lemmas.List.{take_min}
use Rattle.std.proofs.lemmas.List.Sums.{sum_by-take-le}
use Rattle.sources.proofs.Rows.{sum-to}
use Rattle.sources.proofs.offset.first_of.Goals as goal

pub sum_of-requires : goal.sum_of-requires
sum_of-requires c =
    omega (arith, sum_by-take-le (λ (x : ℕ). x) c.args.widths.now c.min-n.result)

pub returns : goal.returns
returns c =
    let widths = c.args.widths.now in
    record {
      is = c.sum_of.ensures ∙ ap (λ (k : ℕ). sum (take k widths)) c.min-n.ensures ∙ ap sum (take_min c.args.n widths) ∙ sym (sum-to c.args.n widths);
      small = omega (arith, sum_by-take-le (λ (x : ℕ). x) widths c.min-n.result);
    }
