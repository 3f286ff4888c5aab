use Rattle.std.proofs.Common.{refl}
use Rattle.oamd.specs.Batch.{roomy}
use Rattle.batch.proofs.is_roomy.Goals as goal

pub returns : goal.returns
unfolding roomy
returns c =
    rw (c.fits-places.ensures, c.fits-trim_slots.ensures, c.fits-slots.ensures) refl
