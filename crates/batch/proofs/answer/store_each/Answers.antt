use Rattle.std.proofs.Common.{arith, rules, ap, ◌+◌, ◌∙◌, ◌≤◌, ℕ}
use Rattle.oamd.specs.Tables.{answer_bytes}
use Rattle.batch.proofs.Each.{begun, turn, ended}
use Rattle.batch.proofs.Shelves.{slot_fits, next-slot}
use Rattle.batch.proofs.answer.store_each.Goals as goal
use Rattle.batch.proofs.answer.store_each.Goals.{In-loop-i}

-- there is room for the entry
room : (g : _) (c : In-loop-i g) → c.loop-i.at + g.T.Entry.WIDTH ≤ answer_bytes
room g c = omega (arith, c.loop-i.invariant.0, slot_fits c.loop-i.i g.row.N g.T.Entry.WIDTH c.loop-i-test.true, c.requires)

pub loop-i-init : goal.loop-i-init
loop-i-init g c = (omega arith, begun g.T.Entry.bytes)

pub store-requires : goal.store-requires
store-requires g c = room g (goal.at.store-requires g c).In-loop-i

pub overflow_add-at : goal.overflow_add-at
overflow_add-at g c = omega (arith, room g (goal.at.overflow_add-at g c).In-loop-i, c.WIDTH-at.ensures)

pub loop-i-preserved : goal.loop-i-preserved
loop-i-preserved g c =
    rw c.WIDTH-at.ensures (
      ap (λ (n : ℕ). n + g.T.Entry.WIDTH) c.loop-i.invariant.0 ∙ omega (arith, next-slot c.loop-i.i g.T.Entry.WIDTH),
      turn g.T.Entry.bytes _ c.loop-i.invariant.1 (search rules) (g.met.T.Entry.wide _) (room g (goal.at.loop-i-preserved g c).In-loop-i) c.store.ensures,
    )

pub returns : goal.returns
returns g c = record { long = search rules; stands = ended g.T.Entry.bytes c.loop-i.invariant.1 (search rules) }
