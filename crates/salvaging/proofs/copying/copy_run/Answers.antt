use Rattle.std.proofs.Common.{arith, rules, ◌+◌, ◌≡◌}
use Rattle.bits.specs.Language.{bit}
use Rattle.laying.proofs.Laws.{rest_step, rest_end, laid-within}
use Rattle.salvaging.proofs.Copies.{slice_next, slice_none, run_is}
use Rattle.salvaging.proofs.copying.copy_run.Goals as goal

pub loop-rest-preserved : goal.loop-rest-preserved
loop-rest-preserved c =
    let source = c.loop-rest.source.0 in
    let further : source + 24 ≡ c.after-source.result.0 =
    omega (arith, c.after-source.ensures, c.new.ensures, c.loop-rest.invariant.1, c.raw-rest.ensures, c.requires) in (
      rest_step (omega arith) (slice_next (bit c.args.s.now) source 24 c.loop-rest.rest (search rules) further) c.loop-rest.invariant.0 c.copy_field-next.ensures,
      omega (arith, c.loop-rest.invariant.1),
      search rules,
    )

pub returns-then-rest-eq0 : goal.returns-then-rest-eq0
returns-then-rest-eq0 c =
    run_is _ _ c.raw-rest.ensures (rest_end (omega arith) (slice_none _ _ _ c.if-rest-eq0.true) c.loop-rest.invariant.0)

pub returns : goal.returns
returns c =
    run_is _ _ c.raw-rest.ensures (laid-within (omega arith) (c.loop-rest.invariant.0.ends c.copy_field.ensures))
