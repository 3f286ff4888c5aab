use Rattle.std.proofs.Common.{[], arith, ◌∷◌}
use Rattle.text.proofs.LayLaws.{rest_start, rest_step, rest_end, texts_more, texts_none, texts-bytes}
use Rattle.text.proofs.laying.lay_bytes.Goals as goal

pub loop-b-init : goal.loop-b-init
loop-b-init c =
    (omega arith, rest_start (texts-bytes _) (omega arith) (omega arith))

pub loop-b-preserved : goal.loop-b-preserved
loop-b-preserved c =
    let h = c.loop-b in
    (omega arith, rest_step _ _ (texts_more _ _ h.b-index _ (omega arith)) h.invariant.1 c.lay_byte-to.ensures)

pub returns : goal.returns
returns c =
    let h = c.loop-b in
    rest_end (texts_none (λ b. b ∷ []) c.args.bytes.now h.b-index (omega arith)) h.invariant.1
