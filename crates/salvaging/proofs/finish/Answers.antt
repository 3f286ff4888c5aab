-- `finish` meets its contract: a refusal first, then the room, then the bytes (`Verdicts.antt`). Assumes nothing.
use Rattle.std.proofs.Common.{List, ap, arith, drop, length, sym, ℕ, ◌++◌, ◌+◌, ◌/◌, ◌∙◌, ◌≡◌}
use Rattle.bits.specs.Writes.{to_bytes}
use Rattle.bits.specs.Bytes.{length-to_bytes}
use Rattle.reader.specs.declared.Sifted.{Sifted}
use Rattle.salvaging.specs.declared.SalvageAnswer.{SalvageAnswer}
use Rattle.salvaging.specs.Salvage.{refused_with}
use Rattle.salvaging.specs.Parts.{gone_by, left_by}
use Rattle.salvaging.proofs.Verdicts.{gives, by-room, no_room, fits}
use Rattle.salvaging.proofs.finish.Goals as goal
use Rattle.salvaging.proofs.finish.Goals.{After-raw-bytes}

-- what is left, as bytes
abbrev remains : List ℕ → Sifted → List ℕ
remains s found = to_bytes (left_by s found)

counted : (c : After-raw-bytes) → c.raw-bytes.result ≡ length (remains c.args.payload.now c.args.found)
counted c =
    let a = c.args in
    c.raw-bytes.ensures ∙ c.bytes-length.ensures ∙ ap (λ (n : ℕ). (n + 7) / 8) c.left_width-whole.ensures ∙ sym (length-to_bytes (left_by a.payload.now a.found))

pub left_width-whole-requires : goal.left_width-whole-requires
left_width-whole-requires c = (by-room _ _ c.requires).fair

pub returns-then-out-bytes : goal.returns-then-out-bytes
returns-then-out-bytes c =
    let a = c.args in
    let out = a.out.now in
    ap (λ (r : SalvageAnswer). gives r out) (c.refused.ensures ∙ ap (λ (n : ℕ). refused_with n c.raw-bytes.result 0) c.number.ensures.0)
    ∙ no_room out (gone_by a.found) (remains a.payload.now a.found) _ (counted (goal.at.returns-then-out-bytes c).After-raw-bytes) c.if-out-bytes.true
    ∙ (by-room _ _ c.requires).same out

pub fill-requires-clause-fair : goal.fill-requires-clause-fair
fill-requires-clause-fair c = (by-room _ _ c.requires).fair

pub accepted-requires : goal.accepted-requires
accepted-requires c =
    let fair = (by-room _ _ c.requires).fair in
    (omega (arith, fair.few, fair.most), fair.array)

pub returns : goal.returns
returns c =
    let a = c.args in
    let out = a.out.now in
    let rest = drop c.raw-bytes.result out in
    -- what is left is laid, and behind it the buffer is as it was
    let filled : c.fill.new.out ++ rest ≡ remains a.payload.now a.found ++ rest = ap (λ (x : List ℕ). x ++ rest) c.fill.ensures in
    ap (λ (r : SalvageAnswer). gives r (c.fill.new.out ++ rest)) c.accepted.ensures
    ∙ fits out (gone_by a.found) (remains a.payload.now a.found) _ (counted (goal.at.returns c).After-raw-bytes) (c.fill.new.out ++ rest) _ (sym c.raw-bytes.ensures)
    c.if-out-bytes.false filled
    ∙ (by-room _ _ c.requires).same out
