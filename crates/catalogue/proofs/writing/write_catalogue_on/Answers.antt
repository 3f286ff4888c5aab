use Rattle.std.proofs.Common.{ap, ◌∙◌}
use Rattle.catalogue.specs.declared.CatalogueAnswer.{CatalogueAnswer}
use Rattle.catalogue.specs.Writes.{Matched}
use Rattle.catalogue.proofs.WriteWhole.{gives, other-lengths, other-frames, no-before, matched}
use Rattle.catalogue.proofs.writing.write_catalogue_on.Goals as goal
use Rattle.catalogue.proofs.writing.write_catalogue_on.Goals.{Else-frames-starts}

-- a length and a frame for each start
lists-match : (c : Else-frames-starts)
    → let a = c.args in Matched a.starts.now a.lengths.now a.frames.now
lists-match c = record { each-length = c.if-lengths-starts.false; each-frame = c.if-frames-starts.false }

pub returns-then-lengths-starts : goal.returns-then-lengths-starts
returns-then-lengths-starts c =
    let a = c.args in
    ap (λ (r : CatalogueAnswer). gives r a.before.now a.text.now) c.refused.ensures
    ∙ other-lengths a.store.now a.starts.now a.lengths.now a.frames.now a.before.now a.text.now c.if-lengths-starts.true

pub returns-then-frames-starts : goal.returns-then-frames-starts
returns-then-frames-starts c =
    let a = c.args in
    ap (λ (r : CatalogueAnswer). gives r a.before.now a.text.now) c.refused-then-frames-starts.ensures
    ∙ other-frames a.store.now a.starts.now a.lengths.now a.frames.now a.before.now a.text.now c.if-lengths-starts.false c.if-frames-starts.true

pub returns-then-before-lt-BEFORE_BYTES : goal.returns-then-before-lt-BEFORE_BYTES
returns-then-before-lt-BEFORE_BYTES c =
    let a = c.args in
    ap (λ (r : CatalogueAnswer). gives r a.before.now a.text.now) c.refused-then-before-lt-BEFORE_BYTES.ensures
    ∙ no-before a.store.now a.starts.now a.lengths.now a.frames.now a.before.now a.text.now (lists-match (goal.at.returns-then-before-lt-BEFORE_BYTES c).Else-frames-starts) c.if-before-lt-BEFORE_BYTES.true

pub returns : goal.returns
returns c =
    let a = c.args in
    c.write_sheets.ensures
    ∙ matched a.store.now a.starts.now a.lengths.now a.frames.now a.before.now a.text.now (lists-match (goal.at.returns c).Else-frames-starts) c.if-before-lt-BEFORE_BYTES.false
