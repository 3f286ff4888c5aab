-- `read_catalogue_on` meets its contract: what the text gives and needs first, then the room, then the buffers. Assumes nothing.
use Rattle.std.proofs.Common.{ap, arith, length, ◌<◌, ◌∙◌}
use Rattle.text.specs.Laying.{last_position}
use Rattle.catalogue.specs.declared.BackAnswer.{BackAnswer}
use Rattle.catalogue.proofs.BackWhole.{gives, no-before, bad-line, no-records, no_lines, all_laid}
use Rattle.catalogue.proofs.reading.read_catalogue_on.Goals as goal
use Rattle.catalogue.proofs.reading.read_catalogue_on.Goals.{Else-before-lt-BEFORE_BYTES}

-- no buffer reaches to the last position
short-lines : (c : Else-before-lt-BEFORE_BYTES) → length c.args.lines.now < last_position
short-lines c = omega arith

short-records : (c : Else-before-lt-BEFORE_BYTES) → length c.args.records.now < last_position
short-records c = omega arith

-- ---- the answers

pub returns-then-before-lt-BEFORE_BYTES : goal.returns-then-before-lt-BEFORE_BYTES
returns-then-before-lt-BEFORE_BYTES c =
    let a = c.args in
    ap (λ (r : BackAnswer). gives r a.before.now a.lines.now a.records.now) c.refused.ensures
    ∙ no-before a.text.now a.before.now a.lines.now a.records.now c.if-before-lt-BEFORE_BYTES.true

pub returns-in-Err : goal.returns-in-Err
returns-in-Err c =
    let a = c.args in
    ap (λ (r : BackAnswer). gives r a.before.now a.lines.now a.records.now) c.refused-in-Err.ensures
    ∙ bad-line a.text.now a.before.now a.lines.now a.records.now c.if-before-lt-BEFORE_BYTES.false _ c.in-Err.ensures

pub returns-then-records-needed : goal.returns-then-records-needed
returns-then-records-needed c =
    let a = c.args in
    ap (λ (r : BackAnswer). gives r a.before.now a.lines.now a.records.now) c.refused-then-records-needed.ensures
    ∙ no-records a.text.now a.before.now a.lines.now a.records.now c.if-before-lt-BEFORE_BYTES.false c.in-Ok.needed c.in-Ok.ensures c.if-records-needed.true

pub returns-then-lines-needed : goal.returns-then-lines-needed
returns-then-lines-needed c =
    let a = c.args in
    ap (λ (r : BackAnswer). gives r a.before.now a.lines.now a.records.now) c.refused-then-lines-needed.ensures
    ∙ no_lines a.text.now a.before.now a.lines.now a.records.now c.if-before-lt-BEFORE_BYTES.false c.in-Ok.needed c.in-Ok.ensures c.if-records-needed.false (short-records (goal.at.returns-then-lines-needed c).Else-before-lt-BEFORE_BYTES) c.if-lines-needed.true

pub returns : goal.returns
returns c =
    let a = c.args in
    all_laid a.text.now a.before.now a.lines.now a.records.now c.if-before-lt-BEFORE_BYTES.false c.in-Ok.needed c.in-Ok.ensures c.if-records-needed.false (short-records (goal.at.returns c).Else-before-lt-BEFORE_BYTES) c.if-lines-needed.false (short-lines (goal.at.returns c).Else-before-lt-BEFORE_BYTES) c.lend.ensures
