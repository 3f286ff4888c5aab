use Rattle.std.proofs.Common.{◌≡◌, ◌*◌, ℕ, arith, subst}
use Rattle.writer.specs.Parts.{Wide, bits_below}
use Rattle.writer.proofs.Entries.{wide_none, wide_more}
use Rattle.writer.proofs.each.each_width.Goals as goal

pub loop-i-init : goal.loop-i-init
loop-i-init g c = λ most f h few. wide_none most f c.new-total.ensures

pub loop-i-preserved : goal.loop-i-preserved
loop-i-preserved g c = λ most f h few.
    wide_more most f c.loop-i-test.true few (c.loop-i.invariant most f h few) (h.each c.loop-i.i c.part.result c.loop-i-test.true c.part.ensures) c.plus-total.ensures

pub returns : goal.returns
returns g c = λ most f h few.
    let e : c.loop-i.i ≡ c.args.n = omega arith in
    subst (λ (k : ℕ). Wide (most * k) c.loop-i.total.0 (bits_below f k)) e (c.loop-i.invariant most f h few)
