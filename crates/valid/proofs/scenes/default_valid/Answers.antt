use Rattle.form.specs.Valid.{between_if, location_valid, volume_valid, zone_valid}
use Rattle.valid.specs.Parts.{rendered_valid}
use Rattle.valid.proofs.Entries.{and-assoc, both-assoc}
use Rattle.valid.proofs.Limits.{or-zeros, screen-unsent}
use Rattle.valid.proofs.scenes.default_valid.Goals as goal

pub returns : goal.returns
unfolding rendered_valid location_valid volume_valid zone_valid between_if
returns c =
    let s = c.args.s in
    rw (or-zeros s.volume.width s.volume.depth s.volume.height, screen-unsent s.screen) (simp (and-assoc, both-assoc))
