use Rattle.oamd.specs.Meaning.{location_of}
use Rattle.meaning.proofs.values.location_of.Goals as goal

-- each coordinate is what its callees ensure, of the fields of the position
pub returns-in-Absolute : goal.returns-in-Absolute
unfolding location_of
returns-in-Absolute c =
    rw (c.in-Absolute.is, c.across_of.ensures, c.across_of-in-Absolute.ensures, c.upright_of.ensures, c.height_of.ensures)

pub returns-in-Moved : goal.returns-in-Moved
unfolding location_of
returns-in-Moved c =
    rw (c.in-Moved.is, c.across_of-in-Moved.ensures, c.moved_by.ensures)
    (rw (c.across_of-in-Moved-2.ensures, c.moved_by-in-Moved.ensures, c.upright_of-in-Moved.ensures, c.moved_by-in-Moved-2.ensures))
