use Rattle.std.proofs.Common.{ℕ}
use lib.ListN.{length-replicate}
use Rattle.oamd.specs.Tables.{most_objects}
use Rattle.catalogue.specs.Sheets.{rows_bytes}
use Rattle.catalogue.proofs.WriteWhole.{taken}
use Rattle.catalogue.proofs.before.take_before.Goals as goal

pub returns : goal.returns
returns c = taken c.args.before.now c.requires c.min-n.result (length-replicate {A = ℕ} (rows_bytes most_objects) 0) c.min-n.ensures c.lay_bytes.ensures
