use Rattle.std.proofs.Common.{ap, eqb, leb}
use Rattle.oamd.specs.declared.Shares.{Shares}
use Rattle.oamd.specs.Programme.{total, agrees}
use Rattle.meaning.proofs.Choice.{chosen, passed}
use Rattle.meaning.proofs.programme.agrees.Goals as goal

-- with reserved content
pub returns-then-has_reserved : goal.returns-then-has_reserved
unfolding agrees
returns-then-has_reserved c =
    chosen _ _ _ _ _ c.has_reserved.ensures c.if-has_reserved.true (ap (λ (s : Shares). leb (total s) c.args.p.objects) c.named_by-n.ensures.0)

pub returns-else-has_reserved : goal.returns-else-has_reserved
unfolding agrees
returns-else-has_reserved c =
    passed _ _ _ _ _ c.has_reserved.ensures c.if-has_reserved.false (ap (λ (s : Shares). eqb (total s) c.args.p.objects) c.named_by-n.ensures.0)
