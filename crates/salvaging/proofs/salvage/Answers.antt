-- `salvage` meets its contract: what `sift` found, or its refusal (`Verdicts.antt`). Assumes nothing.
use Rattle.std.proofs.Common.{sym, ap, ◌∙◌}
use Rattle.salvaging.specs.declared.SalvageAnswer.{SalvageAnswer}
use Rattle.salvaging.proofs.Verdicts.{gives, refuses}
use Rattle.salvaging.proofs.salvage.Goals as goal

pub returns-in-Err : goal.returns-in-Err
returns-in-Err c =
    let out = c.args.out.now in
    ap (λ (r : SalvageAnswer). gives r out) c.refused.ensures ∙ refuses _ _ (sym c.in-Err.is ∙ c.sift.ensures) out
