use Rattle.bits.specs.Language.{bit}
use Rattle.reader.proofs.Pass.{Passing}
use Rattle.reader.proofs.extended.read_extras.Given as goal

abbrev pub invariant-loop-i : goal.invariant-loop-i
invariant-loop-i g t =
    Passing g.X.Extra.block g.X.Extra.given t.n (bit t.s) t.initial.cur t.l t.initial.out t.i t.cur t.out
