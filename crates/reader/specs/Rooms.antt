-- What the loops over objects and blocks ask of their room.
use Rattle.std.specs.Prelude.{List, ℕ, ◌+◌, ◌*◌, ◌≤◌, length}
use Rattle.oamd.specs.Tables.{most_objects, most_blocks, record_bytes, scratch_bytes}

-- so many records
pub record RecordsRoom (n : ℕ) (out : List ℕ) : Type 0 where
  pub many : record_bytes * n ≤ scratch_bytes
  pub fits : record_bytes * n ≤ length out

-- the records of an object's blocks, from a byte on
pub record ObjectRoom (blocks from : ℕ) (out : List ℕ) : Type 0 where
  pub some : 1 ≤ blocks
  pub few : blocks ≤ most_blocks
  pub near : from + record_bytes * blocks ≤ scratch_bytes
  pub fits : from + record_bytes * blocks ≤ length out

-- those of all objects
pub record ObjectsRoom (objects blocks : ℕ) (out : List ℕ) : Type 0 where
  pub many : objects ≤ most_objects
  pub some : 1 ≤ blocks
  pub few : blocks ≤ most_blocks
  pub fits : record_bytes * (objects * blocks) ≤ length out

-- those of all objects, however many blocks they have
pub record ElementRoom (objects : ℕ) (out : List ℕ) : Type 0 where
  pub many : objects ≤ most_objects
  pub fits : record_bytes * (objects * most_blocks) ≤ length out
