-- `lay_catalogue` meets its contract: whoever lays the entries left from here has laid all from the start. Each entry comes to the same sheet whatever stood in the room
-- before it. Assumes nothing.
use Rattle.std.proofs.Common.{length, ◌≡◌}
use Rattle.oamd.specs.Tables.{room_bytes, most_trim}
use Rattle.catalogue.specs.Parts.{front}
use Rattle.catalogue.proofs.WriteSheets.{Cataloguing}
use Rattle.catalogue.proofs.frames.lay_catalogue.Given as goal

abbrev pub invariant-loop-i : goal.invariant-loop-i
invariant-loop-i t =
    (length t.room ≡ room_bytes) × (length t.trim ≡ most_trim) × Cataloguing t.shelf.store.now t.shelf.starts.now t.shelf.lengths.now t.shelf.frames.now (front t.fn.latest) t.fn.text t.text 0 t.to t.latest t.i
