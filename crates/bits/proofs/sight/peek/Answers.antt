use Rattle.std.proofs.Common.{arith, lt_of_lt_of_le, pow_mono, refl, ◌≤◌}
use Rattle.bits.proofs.Width.{looked_lt}
use Rattle.bits.proofs.sight.peek.Goals as goal

-- `bits::sight::peek` meets its contract. Assumes nothing.
pub overflow_cast-result-3 : goal.overflow_cast-result-3
overflow_cast-result-3 c =
    record { fits = lt_of_lt_of_le (looked_lt c.args.x c.args.o c.args.n (omega arith)) (pow_mono (let e : c.args.n ≤ 32 = omega arith in e)) }

pub returns : goal.returns
returns c =
    (refl, looked_lt c.args.x c.args.o c.args.n (omega arith))
