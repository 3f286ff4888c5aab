-- Whose record comes behind a record: records stand object by object, and of each object block by block.
use Rattle.std.specs.Prelude.{ℕ, ◌+◌, ltb}
use Rattle.bits.specs.Language.{pick}
use Rattle.valid.specs.declared.Turn.{Turn}

-- the next block of the object, of so many, or the first of the next object
abbrev pub turn_behind : ℕ → Turn → Turn
turn_behind blocks t =
    pick (ltb (t.block + 1) blocks) (record { object = t.object; block = t.block + 1 }) (record { object = t.object + 1; block = 0 })
