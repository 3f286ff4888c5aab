use Rattle.std.proofs.Common.{[], append_assoc, sym, ◌∷◌}
use Rattle.text.specs.Numerals.{decimal}
use Rattle.text.proofs.LayLaws.{laid-bind, laid_is}
use Rattle.catalogue.proofs.lines.lay_pair.Goals as goal

pub returns : goal.returns
returns c =
    let a = c.args in
    laid_is (sym (append_assoc a.key.now (decimal a.n) (a.end ∷ []))) (laid-bind c.lay_bytes-to.ensures c.lay_number.ensures)
