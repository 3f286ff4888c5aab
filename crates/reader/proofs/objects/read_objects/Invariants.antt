use Rattle.bits.specs.Language.{bit}
use Rattle.reader.proofs.ObjectLoop.{Among}
use Rattle.reader.proofs.objects.read_objects.Given as goal

abbrev pub invariant-loop-j : goal.invariant-loop-j
invariant-loop-j t =
    Among t.scope.objects t.scope.shares t.blocks (bit t.s) t.l t.initial.cur t.initial.out t.j t.at t.cur t.out
