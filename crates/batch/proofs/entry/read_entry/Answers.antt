-- `read_entry` meets its contract: 12 where the part leaves the store, else what a read of it gives. Assumes nothing.
use Rattle.std.proofs.Common.{arith, length, sym, ◌+◌, ◌-◌, ◌<◌, ◌∙◌}
use Rattle.batch.proofs.Outcomes.{leaves, inside}
use Rattle.batch.proofs.entry.read_entry.Goals as goal
use Rattle.batch.proofs.entry.read_entry.Goals.{then-all-start-via-then-all-start, then-all-start-via-else-all-start+then-all-start-2}

pub returns-then-all-start : goal.returns-then-all-start
returns-then-all-start c =
    let outside : length c.args.store.now < c.args.start + c.args.len =
    elim c.then-all-start.branch [
      | then-all-start-via-then-all-start w ↦ omega (arith, w.if-all-start.true)
      | then-all-start-via-else-all-start+then-all-start-2 w ↦ omega (arith, w.if-all-start.false, w.if-all-start-2.true)
    ] in
    c.outside.ensures ∙ sym (leaves _ _ _ _ _ _ outside)

pub returns : goal.returns
returns c =
    let a = c.args in
    c.read.ensures ∙ sym (inside _ _ a.start a.len _ _ (a.start + a.len - a.start) (omega arith) (omega arith))
