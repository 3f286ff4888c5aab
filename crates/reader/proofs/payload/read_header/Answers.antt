use Rattle.std.proofs.Common.{ap, arith, not}
use Rattle.bits.specs.declared.Refusal.TheVariants.{Counts}
use Rattle.bits.specs.Refusals.{number_of}
use Rattle.bits.proofs.Sticky.{bind, plain}
use Rattle.oamd.specs.Programme.{agrees}
use Rattle.oamd.specs.Payload.{header}
use Rattle.reader.proofs.Gates.{gated, regiven}
use Rattle.reader.proofs.payload.read_header.Goals as goal

pub returns : goal.returns
unfolding header
returns c =
    let programme = c.read_assignment-step.result.value in
    let (few, step) = c.read_assignment-step.ensures in
    let agreed = gated _ _ _ _ (ap not c.agrees.ensures) c.refuse_if-agreed.ensures in
    record {
      reads = bind c.read_version-version.ensures.reads
          (bind c.read_object_count-objects.ensures.reads (bind step.reads (bind (regiven (not (agrees programme)) (number_of Counts) 0 agreed) (bind c.take-alternate.ensures.reads plain))));
      few = omega (arith, few, c.read_object_count-objects.ensures.small);
      bit = c.take-alternate.ensures.small;
    }
