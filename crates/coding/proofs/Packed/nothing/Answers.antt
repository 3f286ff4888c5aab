use Rattle.std.proofs.Common.{ap, arith, subst, sym, ℕ, ◌<◌, ◌^◌}
use Rattle.bits.specs.Writes.{to_bits}
use Rattle.coding.proofs.Packed.nothing.Goals as goal

pub returns : goal.returns
unfolding to_bits
returns c =
    let none = c.new.ensures in
    record {
      packs = record { same = ap (λ (n : ℕ). to_bits n 0) none; small = subst (λ (n : ℕ). 0 < 2 ^ n) (sym none) (omega arith) };
      least = omega arith;
      most = omega arith;
    }
