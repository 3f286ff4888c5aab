-- what is left of the update gives what the whole of it gives
use Rattle.std.proofs.Common.{◌<◌}
use Rattle.std.specs.Prelude.{IfSome}
use Rattle.oamd.specs.Tables.{most_objects}
use Rattle.catalogue.proofs.RowsLaws.{EntriesLeft}
use Rattle.catalogue.proofs.rows.read_entries.Given as goal

abbrev pub invariant-loop-j : goal.invariant-loop-j
invariant-loop-j l = EntriesLeft l.full l.objects l.initial.r l.r l.initial.next l.next l.initial.rows l.rows l.j × IfSome l.next (λ i. i < most_objects)
