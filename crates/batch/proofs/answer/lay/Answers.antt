use Rattle.std.proofs.Common.{ap, arith, length, sym, ◌+◌, ◌-◌, ◌∙◌}
use Rattle.batch.proofs.Each.{laid}
use Rattle.batch.proofs.answer.lay.Goals as goal

pub returns : goal.returns
returns g c =
    rw c.copy_from_slice.ensures.after
    (laid c.args.bytes c.args.out.now c.args.at g.row.N {m = c.args.at + g.row.N - c.args.at} (omega arith) (ap length (sym c.copy_from_slice.ensures.after) ∙ c.copy_from_slice.ensures.len) (omega arith))
