use Rattle.std.proofs.Common.{arith, refl}
use Rattle.catalogue.proofs.BackRows.{cleared, same_count, other-count}
use Rattle.catalogue.proofs.sheets.take_rows.Goals as goal

pub returns-then-rows-objects : goal.returns-then-rows-objects
returns-then-rows-objects c =
    let a = c.args in
    let h = same_count a.objects a.rows.now (omega arith) c.if-rows-objects.true in
    record { fills = h.0; here = h.1; count = c.if-rows-objects.true }

pub returns : goal.returns
returns c =
    let a = c.args in
    let few = a.objects.few in
    let zeros = cleared _ _ _ a.rows.now.bytes (omega arith) (c.fill.ensures.after (λ y e. e)) in
    let h = other-count a.objects a.rows.now (omega arith) c.if-rows-objects.false _ zeros in
    record { fills = h.0; here = h.1; count = refl }
