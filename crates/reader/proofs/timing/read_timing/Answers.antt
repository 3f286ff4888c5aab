use Rattle.std.proofs.Common.{arith, length, ◌+◌, ◌≡◌}
use Rattle.bits.proofs.Sticky.{bind, done}
use Rattle.oamd.specs.Timing.{md_update_info, timing_of}
use Rattle.syntax.proofs.Filled.{filling_step, filling-stop}
use Rattle.reader.proofs.timing.read_timing.Goals as goal

pub loop-i-preserved : goal.loop-i-preserved
loop-i-preserved c = (
  omega arith,
  rw c.update_of.ensures
      (filling_step c.loop-i.invariant.1 (omega arith) (omega (arith, c.take-count.ensures.small)) c.read_update-step.ensures.reads),
)

pub returns : goal.returns
unfolding md_update_info timing_of
returns c =
    let filled = c.loop-i.invariant.1 in
    let all : c.take-count.result.v + 1 ≡ length filled.list = omega (arith, filled.long) in
    record {
      value = record { offset = c.read_offset-start.result.value; blocks = filled.list };
      reads = bind c.read_offset-start.ensures.reads (bind c.take-count.ensures.reads (done (filling-stop filled (omega arith))));
      holds = λ j. record { blocks = all j; updates = filled.holds j };
      counts = all;
      some = omega arith;
      few = omega (arith, c.take-count.ensures.small);
    }
