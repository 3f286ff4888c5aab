use Rattle.std.proofs.Common.{arith, rules}
use Rattle.laying.proofs.Laws.{laid-within}
use Rattle.writer.proofs.Entries.{pick_le, packable}
use Rattle.writer.proofs.Trims.{numbered-flags, packs-flags, flags-laid}
use Rattle.writer.proofs.Widths.{at_most}
use Rattle.writer.proofs.trim.put_flags.Goals as goal

pub put_each-requires-clause-parts : goal.put_each-requires-clause-parts
put_each-requires-clause-parts c =
    let few = pick_le c.args.sent c.pick-n.ensures in
    packable few (packs-flags c.args.trim.now c.args.objects few (λ i r h e. at_most {i = 1} (search rules))) (omega arith) (omega arith)

pub returns : goal.returns
returns c =
    let n = c.pick-n.ensures in
    laid-within (omega arith)
    (flags-laid c.args.trim.now c.args.objects c.args.sent n (c.put_each.ensures 1 (numbered-flags c.args.trim.now c.args.objects) (packs-flags c.args.trim.now c.args.objects (pick_le c.args.sent n) (λ i r h e. at_most {i = 1} (search rules)))))
