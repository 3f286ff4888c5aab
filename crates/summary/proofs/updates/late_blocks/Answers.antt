use Rattle.std.proofs.Common.{rules, arith, Bool, cond, ◌≡◌, ◌∙◌}
use Rattle.std.specs.Prelude.{count_by, leb}
use Rattle.std.proofs.lemmas.List.Sums.{count_by-le-length}
use Rattle.oamd.specs.declared.Update.{Update}
use Rattle.oamd.specs.Tables.{frame_samples}
use Rattle.summary.specs.Summary.{is_late}
use Rattle.summary.proofs.Summed.{sum-total, counts}
use Rattle.summary.proofs.updates.late_blocks.Goals as goal

pub returns : goal.returns
returns c =
    let updates = c.args.updates.now in
    let late : Update → Bool = λ u. leb frame_samples u.start.0 in
    let counted : c.count.result ≡ count_by late updates = search rules in
    (counted ∙ sum-total (λ u. cond (late u) 1 0) is_late (λ u. counts (late u)) updates, omega (arith, count_by-le-length late updates))
