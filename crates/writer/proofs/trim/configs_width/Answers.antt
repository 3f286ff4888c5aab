use Rattle.std.proofs.Common.{arith, rules}
use Rattle.writer.specs.Most.{most_config}
use Rattle.writer.proofs.Entries.{pick_le, few_bits}
use Rattle.writer.proofs.Trims.{numbered-configs, packs-configs, configs-wide}
use Rattle.writer.proofs.Widths.{at_most}
use Rattle.writer.proofs.trim.configs_width.Goals as goal

pub returns : goal.returns
returns c =
    let n = c.pick-n.ensures in
    let few = pick_le c.args.sent n in
    configs-wide c.args.trim.now c.args.sent n (c.each_width.ensures most_config (numbered-configs c.args.trim.now) (packs-configs c.args.trim.now few (λ i r h e. at_most {i = 1} (search rules))) (few_bits few most_config (omega arith)))
