use Rattle.std.proofs.Common.{List, ap, drop, length, sym, ℕ, ◌++◌, ◌+◌, ◌/◌, ◌∙◌, ◌≡◌}
use Rattle.form.specs.Answer.{tables_of}
use Rattle.form.specs.Form.{form_bits}
use Rattle.writer.proofs.Whole.{no_room, too_long, fits}
use Rattle.writer.proofs.write_form.Goals as goal
use Rattle.writer.proofs.write_form.Goals.{After-raw-bytes, then-payload-n-via-then-payload-n, then-payload-n-via-else-payload-n+then-n-gt-MOST_BYTES}

-- the bytes counted there are those of the form
counted : (c : After-raw-bytes) → let a = c.args in
    c.raw-bytes.result ≡ (length (form_bits (tables_of a.programme a.timing a.records.now a.trim.now)) + 7) / 8
counted c =
    c.raw-bytes.ensures ∙ c.bytes-length.ensures ∙ ap (λ (n : ℕ). (n + 7) / 8) c.measure-m.ensures.whole

pub returns-then-payload-n : goal.returns-then-payload-n
returns-then-payload-n c =
    let bytes = counted (goal.at.returns-then-payload-n c).After-raw-bytes in
    elim c.then-payload-n.branch [
      | then-payload-n-via-then-payload-n w ↦ no_room _ _ _ bytes c.refused.ensures w.if-payload-n.true
      | then-payload-n-via-else-payload-n+then-n-gt-MOST_BYTES w ↦ too_long _ _ _ bytes c.refused.ensures w.if-payload-n.false w.if-n-gt-MOST_BYTES.true
    ]

pub returns : goal.returns
returns c =
    fits _ _ _ (counted (goal.at.returns c).After-raw-bytes) _ _ (sym c.raw-bytes.ensures) c.if-payload-n.false c.if-n-gt-MOST_BYTES.false
    (ap (λ (x : List ℕ). x ++ drop c.raw-bytes.result c.args.payload.now) c.fill.ensures)
