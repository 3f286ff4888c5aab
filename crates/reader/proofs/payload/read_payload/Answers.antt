use Rattle.reader.proofs.Whole.{payload-read}
use Rattle.reader.proofs.payload.read_payload.Goals as goal

pub returns : goal.returns
returns c =
    let asked = c.requires in
    payload-read asked.headed asked.empty c.limit_of-l.ensures c.scope_of-scope.ensures c.nothing_read.ensures
    c.read_element_count-count.ensures.reads c.read_elements-step.ensures
