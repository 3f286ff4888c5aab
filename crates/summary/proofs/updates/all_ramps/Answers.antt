use Rattle.std.proofs.Common.{rules, refl, ◌≡◌, ◌∙◌}
use Rattle.std.specs.Prelude.{sum_by}
use Rattle.summary.specs.Summary.{ramp_length}
use Rattle.summary.proofs.Summed.{sum-total}
use Rattle.summary.proofs.updates.all_ramps.Goals as goal

pub returns : goal.returns
returns c =
    let sum : c.sum.result ≡ sum_by ramp_length c.args.updates.now = search rules in
    sum ∙ sum-total ramp_length ramp_length (λ u. refl) c.args.updates.now
