use Rattle.std.proofs.Common.{arith}
use Rattle.form.specs.Form.{trim_element_bits}
use Rattle.form.specs.Answer.{trim_at}
use Rattle.laying.proofs.Laws.{laid-bind, laid-within}
use Rattle.writer.proofs.trim.put_trim_fields.Goals as goal

pub returns : goal.returns
unfolding trim_element_bits trim_at
returns c =
    laid-within (omega arith)
    (laid-bind c.put-next.ensures (laid-bind c.put-next-2.ensures (laid-bind c.put-next-3.ensures
    (laid-bind c.put_configs-next.ensures (laid-bind c.put-next-4.ensures c.put_flags.ensures)))))
