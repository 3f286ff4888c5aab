use Rattle.std.proofs.Common.{rules, ◌+◌, eqb, get_or, ◌∙◌}
use Rattle.valid.proofs.Zeros.{each_zero}
use Rattle.valid.proofs.trim.zero_bytes.Goals as goal

pub returns : goal.returns
returns c =
    let bytes = c.args.bytes.now in
    c.all_below.ensures (λ i. eqb (get_or bytes (c.args.from + i) 0) 0) (λ i r h e. search rules) ∙ each_zero bytes c.args.n c.args.from
