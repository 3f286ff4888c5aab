use Rattle.std.proofs.Common.{arith, refl, sym}
use Rattle.std.proofs.lemmas.Nat.{ones-le}
use Rattle.meaning.proofs.Sums.{each-one}
use Rattle.meaning.proofs.programme.nonstd_labels.Goals as goal

pub returns : goal.returns
returns c = (sym (each-one 17 0 17 c.args.v refl), ones-le 17 _ (omega arith))
