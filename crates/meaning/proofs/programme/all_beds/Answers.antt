use Rattle.std.proofs.Common.{ap, arith, length, rules, ℕ, ◌+◌, ◌≡◌}
use Rattle.meaning.proofs.Sums.{turn, whole, bed-sum}
use Rattle.meaning.proofs.programme.all_beds.Goals as goal

pub loop-b-preserved : goal.loop-b-preserved
loop-b-preserved c =
    let l = c.loop-b in
    turn bed-sum _ l.invariant (search rules) (ap (λ (x : ℕ). l.sum + x) c.bed_objects-sum.ensures.0) (omega arith)

pub returns : goal.returns
returns c =
    let nine : length c.args.beds ≡ 9 = search rules in
    let w = whole bed-sum c.loop-b.invariant (omega arith) in
    (w.0, omega arith)
