use Rattle.bits.specs.Language.{bit}
use Rattle.reader.proofs.ObjectLoop.{Inside}
use Rattle.reader.proofs.objects.read_object.Given as goal

abbrev pub invariant-loop-i : goal.invariant-loop-i
invariant-loop-i t =
    Inside t.class t.blocks t.from (bit t.s) t.l t.initial.cur t.initial.out t.i t.scene t.cur t.out
