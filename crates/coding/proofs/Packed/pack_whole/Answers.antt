use Rattle.std.proofs.Common.{arith, refl, ◌+◌, ◌≡◌}
use Rattle.coding.proofs.Joins.{sum_fits, sum-behind}
use Rattle.coding.proofs.Packed.pack_whole.Goals as goal

pub overflow_add-result : goal.overflow_add-result
overflow_add-result c =
    record { fits = sum_fits c.args.w c.args.v c.args.self c.requires }

pub returns : goal.returns
returns c =
    let a = c.args in
    let width : c.plus.result.0 ≡ a.self.width.0 + a.w = omega (arith, c.plus.ensures, c.new.ensures, c.requires.room.fits) in
    sum-behind a.w a.v a.self c.requires _ width refl
