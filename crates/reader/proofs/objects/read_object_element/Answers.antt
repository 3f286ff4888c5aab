use Rattle.bits.proofs.Sticky.{bind, plain}
use Rattle.oamd.specs.ObjectElement.{object_element}
use Rattle.reader.proofs.objects.read_object_element.Goals as goal

pub returns : goal.returns
unfolding object_element
returns c =
    let time = c.read_timing-step.ensures in
    let objects = c.read_objects-cur.ensures in
    record {
      value = record { timing = time.value; objects = objects.value };
      reads = bind time.reads (bind c.take-absent.ensures.reads (bind c.take_if-reserved.ensures.reads (bind (rw (← time.counts) objects.reads) plain)));
      holds = time.holds;
      few = time.few;
      size = objects.size;
      many = objects.many;
      stand = objects.stand;
    }
