use Rattle.std.proofs.Common.{ap, arith, mod-lt, pow_pos, ◌∙◌}
use Rattle.bits.specs.Writes.{to_bits}
use Rattle.coding.proofs.Joins.{low_bits, same_bits, behind_is}
use Rattle.coding.proofs.Packed.pack.Goals as goal

pub pack_whole-requires : goal.pack_whole-requires
pack_whole-requires c =
    let a = c.args in
    record { room = c.requires; all = rw (low_bits a.w a.v (omega arith)) (mod-lt a.v (pow_pos a.w)) }

pub returns : goal.returns
returns c =
    let a = c.args in
    behind_is (ap (to_bits a.w) (low_bits a.w a.v (omega arith)) ∙ same_bits a.w a.v) c.pack_whole.ensures
