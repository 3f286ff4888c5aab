use Rattle.std.proofs.Common.{ap}
use Rattle.std.specs.Prelude.{is_some}
use Rattle.sources.proofs.ToExtras.{divergence-absent, no-divergence, divergence-found}
use Rattle.sources.proofs.walk.find_divergence.Goals as goal

pub returns-in_default : goal.returns-in_default
returns-in_default c =
    divergence-absent c.requires.0 c.requires.1 c.find_fields.ensures (ap is_some c.in_default.is) c.unsent.ensures

pub returns-then-present-ne1 : goal.returns-then-present-ne1
returns-then-present-ne1 c =
    no-divergence c.requires.0 c.requires.1 c.find_fields.ensures c.in-Some.is c.take-present.ensures.reads c.if-present-ne1.true c.unsent-then-present-ne1.ensures

pub returns : goal.returns
returns c =
    divergence-found c.requires.0 c.requires.1 c.find_fields.ensures c.in-Some.is c.take-present.ensures.reads c.if-present-ne1.false c.index_of-k.ensures
    c.pass_divergences-begun.ensures c.carries_at.ensures c.raw.ensures
