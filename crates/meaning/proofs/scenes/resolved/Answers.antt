use Rattle.oamd.specs.Meaning.{resolve}
use Rattle.meaning.proofs.scenes.resolved.Goals as goal

pub returns : goal.returns
unfolding resolve
returns c =
    rw (c.gain_after.ensures, c.priority_after.ensures, c.shown_after-shown.ensures)
