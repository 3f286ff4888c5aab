use Rattle.std.proofs.Common.{arith, eqb, ℕ, ◌≡◌}
use Rattle.bits.specs.Language.{both, bits_if}
use Rattle.bits.proofs.Free.{looks-give, ◌▹◌}
use Rattle.oamd.specs.Block.{object_basic_info}
use Rattle.oamd.specs.Meaning.{gain_of, priority_of}
use Rattle.oamd.specs.Programme.{clear?}
use Rattle.scenes.specs.declared.Levels.{Levels}
use Rattle.scenes.proofs.Taken.{pair-taken, pair-valued}
use Rattle.scenes.proofs.basic.mixed_levels.Goals as goal

both_found : {g g' p p' : ℕ} → g ≡ g' → p ≡ p' → ◌≡◌ {A = Levels} (record { gain = g; priority = p }) (record { gain = g'; priority = p' })
both_found e f = rw (e, f)

pub returns : goal.returns
unfolding object_basic_info
returns c =
    let parts = c.look-parts.ensures.1 in
    let args = c.args in
    let gain-sent = c.has_gain-gained.ensures in
    let rank-sent = c.has_priority-ranked.ensures in
    let gain = pair-taken gain-sent (λ u i. bits_if (eqb i 2) 6) c.chosen-priority_off.ensures c.look_gain-g.ensures looks-give in
    let rank = pair-taken rank-sent (λ u d. bits_if (both u (clear? d)) 5) c.chosen.ensures c.look_priority-p.ensures looks-give in
    record {
      coded = _;
      held = record {
        looks = parts.looks ▹ gain.first ▹ gain.second ▹ rank.first ▹ rank.second ▹ looks-give;
        near = omega (arith, parts.near, gain.near, rank.near);
      };
      means = both_found
          (pair-valued gain-sent (λ i b. gain_of (record { index = i; bits = b }) args.gainbefore) _ c.gain_of.ensures c.pick.ensures)
          (pair-valued rank-sent (λ d b. priority_of (record { bydefault = d; bits = b })) _ c.priority_of.ensures c.choice.ensures);
    }
