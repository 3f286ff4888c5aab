use Rattle.std.proofs.Common.{arith}
use Rattle.bits.proofs.Free.{looks-give, ◌▹◌}
use Rattle.oamd.specs.declared.Status.TheVariants.{Full}
use Rattle.oamd.specs.Block.{object_basic_info}
use Rattle.scenes.proofs.basic.full_levels.Goals as goal

pub returns : goal.returns
unfolding object_basic_info
returns c before =
    let gain = c.look_gain-g.ensures in
    let rank = c.look_priority-p.ensures in
    record {
      coded = record { status = Full; parts = 3; gain = c.look_gain-g.result.value; priority = c.look_priority-p.result.value };
      means = rw (c.gain_of.ensures, c.priority_of.ensures);
      held = record {
        looks = looks-give ▹ gain.first ▹ gain.second ▹ rank.first ▹ rank.second ▹ looks-give;
        near = omega (arith, gain.near, rank.near);
      };
    }
