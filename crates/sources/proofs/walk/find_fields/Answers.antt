use Rattle.sources.proofs.Passing.{opened}
use Rattle.sources.proofs.walk.find_fields.Goals as goal

pub find_element-requires : goal.find_element-requires
find_element-requires c =
    (opened c.requires.0 c.requires.1 c.limit_of-l.ensures c.read_element_count-count.ensures _).begun
