-- What is asked where records are laid into a lent buffer, and what is promised.
use Rattle.std.specs.Prelude.{◌≡◌, List, ℕ, ◌*◌, ◌≤◌, length}
use Rattle.oamd.specs.declared.Timing.{Timing}
use Rattle.oamd.specs.Tables.{most_objects, most_blocks, record_stride}
use Rattle.oamd.specs.Record.{Record, bytes_of, onto}
use Rattle.oamd.specs.Time.{time_of, timed_bytes_of}
use Rattle.reader.specs.Rooms.{RecordsRoom}

-- so many records stand in the scratch, none without a block, and have room with their times
pub record Lending (count : ℕ) (timing : Timing) (scratch records : List ℕ) : Type 0 where
  pub stand : RecordsRoom count scratch
  pub few : count ≤ most_objects * timing.blocks
  pub little : timing.blocks ≤ most_blocks
  pub room : record_stride * count ≤ length records

-- whatever records stood in the scratch are at the front of the buffer, each with its time
pub record Lent (count frame : ℕ) (timing : Timing) (scratch before after : List ℕ) : Type 0 where
  pub same : length after ≡ length before
  pub front : (rs : List Record) (t : List ℕ) → length rs ≡ count → scratch ≡ onto (bytes_of rs) t → after ≡ onto (timed_bytes_of (time_of frame timing) 0 rs) before
