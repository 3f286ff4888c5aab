use Rattle.std.proofs.Common.{arith, rules, sym, true, false}
use Rattle.form.specs.Form.{extended_element_bits}
use Rattle.writer.specs.Most.{most_extra}
use Rattle.writer.proofs.Entries.{pick_le, few_bits}
use Rattle.writer.proofs.Extra.{numbered-extras, packs-extras, extras-wide}
use Rattle.writer.proofs.Widths.{wide-field, wide-behind, wide-count}
use Rattle.writer.proofs.extended.extended_width.Goals as goal

pub returns : goal.returns
unfolding extended_element_bits
returns c =
    let a = c.args in
    let s = a.records.now in
    let g = a.groups in
    let m = c.pick.ensures in
    let n = c.pick-2.ensures in
    let first = extras-wide true s a.n g.diverges m (c.each_width-divergences.ensures most_extra (numbered-extras true s a.n)
    (packs-extras true s a.n (pick_le g.diverges m) (λ i r h e. search rules)) (few_bits (pick_le g.diverges m) most_extra (omega (arith, c.requires.stand.few)))) in
    let second = extras-wide false s a.n g.refines n (c.each_width-positions.ensures most_extra (numbered-extras false s a.n)
    (packs-extras false s a.n (pick_le g.refines n) (λ i r h e. search rules)) (few_bits (pick_le g.refines n) most_extra (omega (arith, c.requires.stand.few)))) in
    rw (sym c.requires.needed.diverges, sym c.requires.needed.refines)
    (wide-count (omega (arith, first.most, second.most, c.requires.stand.few))
    (wide-behind (wide-field 1 _) (wide-behind first (wide-behind (wide-field 1 _) second))))
