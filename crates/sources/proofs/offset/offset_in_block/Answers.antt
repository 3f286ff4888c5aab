use Rattle.std.proofs.Common.{arith, refl, ◌∙◌}
use Rattle.sources.proofs.Spots.{either-is, of-block, no-block}
use Rattle.sources.proofs.offset.offset_in_block.Goals as goal

pub returns-in-InBasic : goal.returns-in-InBasic
returns-in-InBasic c =
    record { is = rw (c.status_width-basic.ensures.is, c.in_basic.ensures.is) (of-block c.args.f c.spot_of.ensures c.in-InBasic.is c.args.begins c.args.b); small = omega arith }

pub returns-in-InRender : goal.returns-in-InRender
returns-in-InRender c =
    record {
      is = rw (c.status_width-basic.ensures.is, c.in_basic-in-InRender.ensures.is, rw either-is at c.status_width.ensures.is, c.groups_before.ensures.is, c.in_group.ensures.is)
          (of-block c.args.f c.spot_of.ensures c.in-InRender.is c.args.begins c.args.b);
      small = omega arith;
    }

pub returns-in_default : goal.returns-in_default
returns-in_default c =
    record { is = no-block _ c.args.begins c.args.b c.in_default.not-InBasic c.in_default.not-InRender ∙ of-block c.args.f c.spot_of.ensures refl c.args.begins c.args.b; small = omega arith }
