use Rattle.std.proofs.Common.{arith, pow_mono, rules, ℕ, ◌-◌, ◌/◌, ◌<◌, ◌^◌, ◌≡◌, ◌≤◌}
use native.Mathlib.Nat.{div-eq_of_lt}
use Rattle.bits.proofs.choices.flag.Goals as goal
use Rattle.bits.proofs.choices.flag.Goals.{then-k-n, else-k-n}

-- `flag` meets its contract: past the number's 32 bits every bit is 0. Assumes nothing.
beyond : (v k : ℕ) → v < 4294967296 → 32 ≤ k → v / 2 ^ k ≡ 0
beyond v k h l = let m : 2 ^ 32 ≤ 2 ^ k = pow_mono l in div-eq_of_lt (omega arith)

pub returns-else-down-lt32 : goal.returns-else-down-lt32
returns-else-down-lt32 c =
    let a = c.args in
    let e : c.if-k-n.down ≡ a.n - 1 - a.k = elim c.if-k-n.branch [ then-k-n w ↦ omega arith | else-k-n w ↦ omega arith ] in
    let z = beyond a.v (a.n - 1 - a.k) (search rules) (omega arith) in
    rw z
