use Rattle.std.proofs.Common.{arith, rules}
use Rattle.writer.specs.Most.{most_config}
use Rattle.writer.proofs.Entries.{pick_le, packable}
use Rattle.writer.proofs.Trims.{numbered-configs, packs-configs, configs-laid}
use Rattle.writer.proofs.Widths.{at_most}
use Rattle.writer.proofs.trim.put_configs.Goals as goal

pub put_each-requires-clause-parts : goal.put_each-requires-clause-parts
put_each-requires-clause-parts c =
    let few = pick_le c.args.sent c.pick-n.ensures in
    packable few (packs-configs c.args.trim.now few (λ i r h e. at_most {i = 1} (search rules))) (omega arith) (omega arith)

pub returns : goal.returns
returns c =
    let n = c.pick-n.ensures in
    configs-laid c.args.trim.now c.args.sent n (c.put_each.ensures most_config (numbered-configs c.args.trim.now) (packs-configs c.args.trim.now (pick_le c.args.sent n) (λ i r h e. at_most {i = 1} (search rules))))
