-- `fill` meets its contract: what is left, and zeros up to the end of its last byte. Assumes nothing.
use Rattle.std.proofs.Common.{arith, rules}
use Rattle.laying.proofs.Laws.{laid-bytes}
use Rattle.salvaging.proofs.Whole.{left_most}
use Rattle.salvaging.proofs.left.fill.Goals as goal

pub finish-requires : goal.finish-requires
finish-requires c =
    omega (arith, c.put_left-end.ensures.next, left_most c.requires.fair)

pub returns : goal.returns
returns c =
    let laid = c.put_left-end.ensures in
    let next = laid.next in
    laid-bytes (omega arith) c.args.out.now _ _ _ _ laid (λ i. search rules) (omega (arith, next, c.requires.out_len))
    (omega (arith, next, c.requires.out_len)) c.finish.ensures
