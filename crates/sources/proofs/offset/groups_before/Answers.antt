use Rattle.std.proofs.Common.{ap, arith, ◌∙◌}
use Rattle.sources.specs.Offsets.{sum_to}
use Rattle.sources.proofs.Rows.{groups}
use Rattle.sources.proofs.offset.groups_before.Goals as goal

pub returns : goal.returns
returns c =
    record {
      is = c.first_of.ensures.is
          ∙ ap (sum_to c.args.group) (groups _ _ _ _ _ _ _ _ c.parts_width.ensures.is c.in_group.ensures.is c.in_group-2.ensures.is
          c.in_group-3.ensures.is c.in_group-4.ensures.is c.in_group-5.ensures.is);
      small = omega arith;
    }
