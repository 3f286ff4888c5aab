use Rattle.std.proofs.Common.{arith}
use Rattle.form.specs.Form.{trim_element_bits}
use Rattle.form.specs.Answer.{trim_at}
use Rattle.writer.proofs.Widths.{wide-field, wide-behind, wide-count}
use Rattle.writer.proofs.trim.trim_width.Goals as goal

pub returns : goal.returns
unfolding trim_element_bits trim_at
returns c =
    let flags = c.flags_width-flags.ensures in
    let configs = c.configs_width-configs.ensures in
    wide-count (omega (arith, configs.most, flags.most, c.ranges.objects))
    (wide-behind (wide-field 2 _) (wide-behind (wide-field 2 _) (wide-behind (wide-field 2 _) (wide-behind configs (wide-behind (wide-field 1 _) flags)))))
