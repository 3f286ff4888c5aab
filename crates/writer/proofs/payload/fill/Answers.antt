use Rattle.std.proofs.Common.{arith, rules}
use Rattle.form.specs.Form.{form}
use Rattle.laying.proofs.Laws.{laid-bytes}
use Rattle.writer.proofs.payload.fill.Goals as goal

pub returns : goal.returns
unfolding form
returns c =
    let next = c.put_form-end.ensures.next in
    let m = c.requires.measured in
    let room = c.requires.out_len in
    laid-bytes (omega arith) c.args.out.now _ _ _ _ c.put_form-end.ensures (λ i. search rules)
    (omega (arith, next, m.whole, room)) (omega (arith, next, m.whole, room)) c.finish.ensures
