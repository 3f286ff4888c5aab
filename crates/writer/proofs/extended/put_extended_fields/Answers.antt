use Rattle.std.proofs.Common.{arith, rules, true, false, ◌*◌}
use Rattle.bits.specs.Writes.{only}
use Rattle.laying.specs.Laying.{Laid}
use Rattle.writer.specs.Most.{most_extra}
use Rattle.writer.specs.Parts.{extras_bits}
use Rattle.writer.proofs.Entries.{pick_le, packable}
use Rattle.writer.proofs.Extra.{numbered-extras, packs-extras, extras-laid, extended-laid}
use Rattle.writer.proofs.extended.put_extended_fields.Goals as goal
use Rattle.writer.proofs.extended.put_extended_fields.Goals.{After-put_each-next}

-- the first group is laid
divergences : (c : After-put_each-next) → let a = c.args in
    Laid (most_extra * a.n) c.put-next.new.out c.put_each-next.new.out c.put-next.result c.put_each-next.result (only a.groups.diverges (extras_bits true a.records.now a.n))
divergences c =
    let a = c.args in
    let n = c.pick.ensures in
    extras-laid true a.records.now a.n a.groups.diverges n (c.put_each-next.ensures most_extra (numbered-extras true a.records.now a.n)
    (packs-extras true a.records.now a.n (pick_le a.groups.diverges n) (λ i r h e. search rules)))

pub put_each-next-requires-clause-parts : goal.put_each-next-requires-clause-parts
put_each-next-requires-clause-parts c =
    let a = c.args in
    let few = pick_le a.groups.diverges c.pick.ensures in
    packable few (packs-extras true a.records.now a.n few (λ i r h e. search rules)) (omega arith) (omega (arith, c.put-next.ensures.most))

pub put-next-requires-2-clause-w_bound : goal.put-next-requires-2-clause-w_bound
put-next-requires-2-clause-w_bound c =
    omega (arith, c.put-next.ensures.most, (divergences (goal.at.put-next-requires-2-clause-w_bound c).After-put_each-next).most)

pub put_each-requires-clause-parts : goal.put_each-requires-clause-parts
put_each-requires-clause-parts c =
    let a = c.args in
    let few = pick_le a.groups.refines c.pick-2.ensures in
    let first = divergences (goal.at.put_each-requires-clause-parts c).After-put_each-next in
    packable few (packs-extras false a.records.now a.n few (λ i r h e. search rules)) (omega arith)
    (omega (arith, c.put-next.ensures.most, first.most, c.put-next-2.ensures.most))

pub returns : goal.returns
returns c =
    let a = c.args in
    let n = c.pick-2.ensures in
    let positions = extras-laid false a.records.now a.n a.groups.refines n (c.put_each.ensures most_extra (numbered-extras false a.records.now a.n)
    (packs-extras false a.records.now a.n (pick_le a.groups.refines n) (λ i r h e. search rules))) in
    extended-laid c.requires.needed c.as_flag.ensures c.as_flag-2.ensures c.put-next.ensures (divergences (goal.at.returns c).After-put_each-next) c.put-next-2.ensures positions
