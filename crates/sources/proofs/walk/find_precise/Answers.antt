use Rattle.std.proofs.Common.{ap, arith, refl, replicate}
use Rattle.std.specs.Prelude.{is_some}
use Rattle.bits.specs.Language.{bit, when, for}
use Rattle.oamd.specs.Extended.{obj_div_block, no_divergence}
use Rattle.oamd.specs.Programme.{set?}
use Rattle.sources.specs.Walks.{Went, carries_at}
use Rattle.sources.proofs.Passing.{passed_if, passed_not}
use Rattle.sources.proofs.ToExtras.{count, counted, room-up_to, precise-absent, no-precise, precise-found}
use Rattle.sources.proofs.walk.find_precise.Goals as goal
use Rattle.sources.proofs.walk.find_precise.Goals.{After-take-present, then-diverging-eq1, else-diverging-eq1}

-- their divergence is behind, where it is sent
behind : (c : After-take-present)
    → Went (when (set? c.take-diverging.result.v) (for (count c.requires.0 c.requires.1) (λ i. obj_div_block (carries_at c.args.records.now i))) (replicate (count c.requires.0 c.requires.1) no_divergence))
    (bit c.args.s.now) c.take-diverging.result c.in-Some.inside.held c.if-diverging-eq1.behind
behind c =
    rw (← counted c.requires.0 c.requires.1 c.read_head-head.ensures)
    (elim c.if-diverging-eq1.branch [
      | then-diverging-eq1 w ↦ rw w.behind-is (passed_if _ _ _ w.if-diverging-eq1.true w.pass_divergences-behind.ensures)
      | else-diverging-eq1 w ↦ rw w.behind-is (passed_not _ _ _ w.if-diverging-eq1.false)
    ])

pub returns-in_default : goal.returns-in_default
returns-in_default c =
    precise-absent c.requires.0 c.requires.1 c.find_fields.ensures (ap is_some c.in_default.is) c.unsent.ensures

pub pass_divergences-behind-requires : goal.pass_divergences-behind-requires
pass_divergences-behind-requires c =
    room-up_to c.requires.0 c.requires.1 (omega (arith, counted c.requires.0 c.requires.1 c.read_head-head.ensures))

pub returns-then-present-ne1 : goal.returns-then-present-ne1
returns-then-present-ne1 c =
    no-precise c.requires.0 c.requires.1 c.find_fields.ensures c.in-Some.is c.take-diverging.ensures.reads
    (behind (goal.at.returns-then-present-ne1 c).After-take-present) c.take-present.ensures.reads c.if-present-ne1.true c.unsent-then-present-ne1.ensures

pub returns : goal.returns
returns c =
    precise-found c.requires.0 c.requires.1 c.find_fields.ensures c.in-Some.is c.take-diverging.ensures.reads
    (behind (goal.at.returns c).After-take-present) c.take-present.ensures.reads c.if-present-ne1.false c.index_of-k.ensures c.pass_precises-begun.ensures
    c.carries_at-carries.ensures c.take_if-given.ensures.reads refl c.raw.ensures
