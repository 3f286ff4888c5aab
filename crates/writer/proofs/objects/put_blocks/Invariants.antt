use Rattle.std.proofs.Common.{◌%◌, ◌*◌, ◌-◌, ◌≡◌}
use Rattle.oamd.specs.Tables.{record_stride}
use Rattle.record.specs.Bytes.{records_at}
use Rattle.laying.proofs.Laws.{Rest}
use Rattle.writer.specs.Most.{most_block}
use Rattle.writer.specs.Survey.{blocks_bits}
use Rattle.writer.proofs.objects.put_blocks.Given as goal

-- Whoever lays the blocks left from here has laid all from the start.
abbrev pub invariant-loop-i : goal.invariant-loop-i
invariant-loop-i t =
    Rest (most_block * t.i) t.initial.out t.out t.initial.next t.next (blocks_bits t.blocks 0 (records_at t.records t.count 0))
    (blocks_bits t.blocks t.i (records_at t.records (t.count - t.i) (record_stride * t.i)))
    × (t.block ≡ t.i % t.blocks)
