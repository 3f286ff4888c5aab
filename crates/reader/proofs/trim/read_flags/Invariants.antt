use Rattle.bits.specs.Language.{bit, bits}
use Rattle.oamd.specs.Tables.{trim_fixed}
use Rattle.reader.proofs.TrimLoop.{Laying, count-flags}
use Rattle.reader.proofs.trim.read_flags.Given as goal

abbrev pub invariant-loop-i : goal.invariant-loop-i
invariant-loop-i t =
    Laying t.objects (λ obj. bits 1) (λ flags. flags) 1 trim_fixed (bit t.s) t.initial.cur t.l t.initial.out count-flags t.i t.cur t.out
