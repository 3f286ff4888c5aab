use Rattle.std.proofs.Common.{◌≡◌, ◌*◌, ℕ, arith, subst}
use Rattle.laying.specs.Laying.{Laid}
use Rattle.writer.specs.Parts.{bits_below}
use Rattle.writer.proofs.Entries.{laid_none, laid_more}
use Rattle.writer.proofs.each.put_each.Goals as goal

pub loop-i-init : goal.loop-i-init
loop-i-init g c = λ most f h. laid_none most f

pub loop-i-preserved : goal.loop-i-preserved
loop-i-preserved g c = λ most f h.
    laid_more most f (c.loop-i.invariant most f h) (h.each c.loop-i.i c.part.result c.loop-i-test.true c.part.ensures) c.put_some-next.ensures

pub returns : goal.returns
returns g c = λ most f h.
    let e : c.loop-i.i ≡ c.args.n = omega arith in
    subst (λ (k : ℕ). Laid (most * k) c.args.out.now c.loop-i.out c.args.pen c.loop-i.next (bits_below f k)) e (c.loop-i.invariant most f h)
