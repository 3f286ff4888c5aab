use Rattle.record.specs.Bytes.{record_at, scene_at}
use Rattle.valid.proofs.Limits.{sent_is}
use Rattle.valid.proofs.scenes.sent_valid.Goals as goal

pub returns : goal.returns
unfolding scene_at
returns c =
    rw (c.refining_valid-precise.ensures, c.precise_at.ensures.there c.requires.0, c.diverging_valid-divergence.ensures, c.divergence_at.ensures.there c.requires.0)
    (rw c.within_limits-limits.ensures (sent_is c.args.class (record_at c.args.records.now c.args.at) c.requires.1))
