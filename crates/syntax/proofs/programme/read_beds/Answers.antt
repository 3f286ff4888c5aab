use Rattle.std.proofs.Common.{arith, map-id, refl, ◌∙◌}
use Rattle.bits.proofs.Sticky.{done}
use Rattle.oamd.specs.Programme.{bed_instances}
use Rattle.syntax.proofs.Lines.{◌▸◌}
use Rattle.syntax.proofs.Filled.{filling_step, filling-stop}
use Rattle.syntax.proofs.programme.read_beds.Goals as goal

pub loop-i-preserved : goal.loop-i-preserved
loop-i-preserved c =
    (omega arith, filling_step c.loop-i.invariant.1 c.loop-i-test.true (omega (arith, c.instances_of-count.ensures.1)) c.read_bed-step.ensures)

pub returns : goal.returns
unfolding bed_instances
returns c =
    let r = c.loop-i.invariant.1 in
    let n = c.instances_of-count.ensures.0 in
    let f = c.has_beds-has.ensures in
    record {
      value = record {
        distribute = c.take_if-distribute.result.v;
        multiple = c.take_if-multiple.result.v;
        instances = c.take_if-instances.result.v;
        beds = r.list;
      };
      reads = (rw f at c.take_if-distribute.ensures.reads)
          ▸ (rw f at c.take_if-multiple.ensures.reads)
          ▸ c.take_if-instances.ensures.reads
          ▸ (rw n at (done (filling-stop r c.loop-i-test.false)));
      distributes = refl;
      multiplies = refl;
      numbers = refl;
      counts = n;
      holds = r.holds ∙ rw map-id;
    }
