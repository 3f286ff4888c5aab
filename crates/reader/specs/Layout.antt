-- Rooms in which nothing stands yet.
use Rattle.std.specs.Prelude.{List, ℕ, replicate}
use Rattle.oamd.specs.Tables.{most_trim}
pub use Rattle.record.specs.Bytes.{set_from}

-- room in which no trim table stands
unfoldable pub no_trim_bytes : List ℕ
no_trim_bytes = replicate most_trim 0
