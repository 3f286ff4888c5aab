use Rattle.std.proofs.Common.{ap, arith, sym, ◌∙◌}
use Rattle.oamd.specs.Tables.{record_bytes}
use Rattle.text.proofs.LineLaws.{count_none}
use Rattle.catalogue.specs.Text.{is_there}
use Rattle.catalogue.proofs.WriteLines.{listed_at, listed_all, there-full, there_other, there_same}
use Rattle.catalogue.proofs.entries.has_changes.Goals as goal

pub returns-then-full : goal.returns-then-full
returns-then-full c =
    let a = c.args in
    sym (there-full a.full a.before.now a.rows.now a.j c.if-full.true)

pub loop-k-init : goal.loop-k-init
loop-k-init c =
    (omega arith, ap is_there (listed_all _ _ _ _))

pub returns-then-before-from : goal.returns-then-before-from
returns-then-before-from c =
    let a = c.args in
    sym (sym c.loop-k.invariant.1 ∙ there_other a.full a.before.now a.rows.now a.j c.loop-k.k (omega arith) c.if-full.false c.if-before-from.true)

pub loop-k-preserved : goal.loop-k-preserved
loop-k-preserved c =
    let a = c.args in (
      omega arith,
      sym (there_same a.full a.before.now a.rows.now a.j c.loop-k.k (omega arith) c.if-full.false c.if-before-from.false) ∙ c.loop-k.invariant.1,
    )

pub returns : goal.returns
returns c =
    let a = c.args in
    sym (sym c.loop-k.invariant.1 ∙ ap is_there (count_none (listed_at a.full a.before.now a.rows.now a.j) record_bytes c.loop-k.k (omega arith)))
