use Rattle.std.proofs.Common.{eq-eqb, eqb, ne_eqb, rules, ◌≡◌}
use Rattle.bits.specs.Language.{pick}
use Rattle.oamd.specs.Payload.{oa_md_version}
use Rattle.syntax.proofs.Lines.{◌▸◌, revalued}
use Rattle.syntax.proofs.header.read_version.Goals as goal
use Rattle.syntax.proofs.header.read_version.Goals.{then-version-eq3, else-version-eq3}

-- The place is the definition's pick, whichever way the `if` went.
pub returns : goal.returns
unfolding oa_md_version
returns c =
    let i = c.if-version-eq3 in
    let v = c.with_value-none.ensures in
    let e : i.back ≡ pick (eqb c.take-version.result.v 3) 5 2 =
    elim c.if-version-eq3.branch [
      | then-version-eq3 w ↦ rw (eq-eqb _ _ w.if-version-eq3.true) (search rules)
      | else-version-eq3 w ↦ rw (ne_eqb _ _ w.if-version-eq3.false) (search rules)
    ] in
    record {
      reads = c.take-version.ensures.reads ▸ c.take_if-more.ensures.reads ▸ revalued (rw (v, e) at c.refuse_if.ensures.1);
      small = rw (c.refuse_if.ensures.0, v) (search rules);
    }
