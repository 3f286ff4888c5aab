use Rattle.std.proofs.Common.{refl, ◌≡◌, ◌+◌, ◌-◌, ◌∙◌, arith}
use Rattle.oamd.specs.LeastFirst.{least_first}
use Rattle.record.proofs.Times.{eight_of, stored}
use Rattle.record.proofs.words.store_eight.Goals as goal

pub returns : goal.returns
unfolding least_first
returns c =
    let put = c.copy_from_slice.ensures.after ∙ c.to_le_bytes.ensures ∙ eight_of c.args.v in
    let e : c.args.at + 8 - c.args.at ≡ 8 = omega arith in
    rw (e, put) (stored (least_first 8 c.args.v) c.args.bytes.now c.args.at 8 c.requires refl)
