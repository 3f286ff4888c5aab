use Rattle.std.proofs.Common.{arith, refl, rules}
use Rattle.oamd.specs.Tables.{trim_fixed}
use Rattle.reader.proofs.TrimLoop.{none_laid, one-laid, all_laid}
use Rattle.reader.proofs.trim.read_flags.Goals as goal

pub loop-i-init : goal.loop-i-init
loop-i-init c =
    none_laid _ _ _ _ _ _ _ _ _ _ refl (search rules)

pub loop-i-preserved : goal.loop-i-preserved
loop-i-preserved c =
    let loop = c.loop-i in
    one-laid _ _ _ _ _ _ _ _ _ _ loop.invariant _ trim_fixed loop.i (omega arith) (λ us. refl) (omega arith) (omega arith) c.take-cur.ensures.reads

pub returns : goal.returns
returns c =
    all_laid _ _ _ _ _ _ _ _ _ _ c.loop-i.invariant (omega arith) (omega arith)
