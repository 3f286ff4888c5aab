use Rattle.std.proofs.Common.{arith, sym}
use Rattle.text.specs.NumeralLaws.{decimal_one, decimal_more}
use Rattle.text.proofs.LayLaws.{laid-bind, laid_is}
use Rattle.text.proofs.laying.+lay_decimal.Goals as goal

pub returns-then-n-lt10 : goal.returns-then-n-lt10
returns-then-n-lt10 t c = laid_is (sym (decimal_one _ (omega arith))) c.lay_byte.ensures

pub returns : goal.returns
returns t c = laid_is (sym (decimal_more _ (omega arith))) (laid-bind c.lay_decimal-to.ensures c.lay_byte-2.ensures)
