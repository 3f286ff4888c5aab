use Rattle.batch.proofs.Shelves.{Done}
use Rattle.batch.proofs.read_entries.Given as goal

-- `read_entries` meets its contract: before entry i, what is done and what is left make the whole (`Shelves.antt`). Assumes nothing.
abbrev pub invariant-loop-i : goal.invariant-loop-i
invariant-loop-i t =
    Done t.store t.starts t.lengths t.frames t.recordslot t.trimslot (record { records = t.initial.records; trims = t.initial.trims; answers = t.initial.answers })
    (record { records = t.records; trims = t.trims; answers = t.answers }) t.slot t.trim t.place t.i
