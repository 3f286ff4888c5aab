use Rattle.valid.proofs.Zeros.{by-words}
use Rattle.valid.proofs.trim.zeros.Goals as goal

pub returns : goal.returns
returns c =
    rw (c.zero_bytes.ensures, c.zero_words.ensures) (by-words _ _ _)
