use Rattle.std.proofs.Common.{arith}
use Rattle.text.proofs.LayLaws.{rest_step, rest_end}
use Rattle.text.proofs.LineLaws.{count_more, count_none}
use Rattle.catalogue.specs.Text.{entry_line}
use Rattle.catalogue.proofs.entries.lay_entries.Goals as goal

pub loop-j-preserved : goal.loop-j-preserved
loop-j-preserved c =
    let a = c.args in (
      omega arith,
      rest_step _ _ (count_more (entry_line a.full a.before.now a.rows.now) a.objects c.loop-j.j (omega arith)) c.loop-j.invariant.1 c.lay_entry-to.ensures,
    )

pub returns : goal.returns
returns c =
    let a = c.args in
    rest_end (count_none (entry_line a.full a.before.now a.rows.now) a.objects c.loop-j.j (omega arith)) c.loop-j.invariant.1
