use Rattle.std.proofs.Common.{arith}
use Rattle.oamd.specs.Tables.{record_bytes}
use Rattle.text.proofs.LayLaws.{rest_start, rest_step, rest_end}
use Rattle.text.proofs.LineLaws.{count_more, count_none}
use Rattle.catalogue.proofs.WriteLines.{listed_at, listed_all}
use Rattle.catalogue.proofs.entries.lay_changes.Goals as goal

pub loop-k-init : goal.loop-k-init
loop-k-init c =
    (omega arith, rest_start (listed_all _ _ _ _) (omega arith) (omega arith))

pub loop-k-preserved : goal.loop-k-preserved
loop-k-preserved c =
    let a = c.args in (
      omega arith,
      rest_step _ _ (count_more (listed_at a.full a.before.now a.rows.now a.j) record_bytes c.loop-k.k (omega arith)) c.loop-k.invariant.1 c.lay_listed-to.ensures,
    )

pub returns : goal.returns
returns c =
    let a = c.args in
    rest_end (count_none (listed_at a.full a.before.now a.rows.now a.j) record_bytes c.loop-k.k (omega arith)) c.loop-k.invariant.1
