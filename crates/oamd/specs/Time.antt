-- Absolute time, in samples from the first of frame 0: what stands behind a record in a lent buffer. No field of the payload holds it; it follows from the frame's
-- number, which the caller gives, and the timing.
use Rattle.std.specs.Prelude.{List, [], ◌∷◌, ◌++◌, ℕ, suc, ◌+◌, ◌*◌, ◌%◌, get_or}
use Rattle.oamd.specs.declared.Timing.{Timing}
use Rattle.oamd.specs.Tables.{frame_samples, time_bytes}
use Rattle.oamd.specs.LeastFirst.{least_first}
use Rattle.oamd.specs.Timing.{no_update}
use Rattle.oamd.specs.Record.{Record, record_bytes_of}

-- when a block of a frame starts, past the frame's end too: frame 1 with start 1,536 and frame 2 with start 0 have the same time
unfoldable pub block_time : ℕ → Timing → ℕ → ℕ
block_time frame t blk = frame * frame_samples + (get_or t.updates blk no_update).start.0

-- when record i does: objects stand outermost and blocks within, so it is a record of block i % blocks
abbrev pub time_of : ℕ → Timing → ℕ → ℕ
time_of frame t i = block_time frame t (i % t.blocks)

-- bytes 24 to 31
abbrev pub time_bytes_of : ℕ → List ℕ
time_bytes_of time = least_first time_bytes time

-- records as they stand in a lent buffer, counted from i on: each with its time behind it, active or not and of every class
unfoldable pub timed_bytes_of : (ℕ → ℕ) → ℕ → List Record → List ℕ
timed_bytes_of time i [] = []
timed_bytes_of time i (r ∷ rs) = (record_bytes_of r ++ time_bytes_of (time i)) ++ timed_bytes_of time (suc i) rs
