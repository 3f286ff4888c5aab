use Rattle.valid.proofs.Zeros.{Seen}
use Rattle.valid.proofs.trim.zero_words.Given as goal

-- `zero_words` meets its contract: before word i, a bit is seen where one of the bytes before it has one (`Zeros.antt`). Assumes nothing.
abbrev pub invariant-loop-i : goal.invariant-loop-i
invariant-loop-i t =
    Seen t.bytes t.n t.from t.seen t.i
