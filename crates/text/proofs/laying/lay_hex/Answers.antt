use Rattle.std.proofs.Common.{arith}
use Rattle.text.specs.Numerals.{hex_byte}
use Rattle.text.proofs.LayLaws.{rest_step, rest_end, texts_more, texts_none}
use Rattle.text.proofs.laying.lay_hex.Goals as goal

pub loop-b-preserved : goal.loop-b-preserved
loop-b-preserved c =
    let h = c.loop-b in
    (omega arith, rest_step _ _ (texts_more _ _ h.b-index _ (omega arith)) h.invariant.1 c.lay_hex_byte-to.ensures)

pub returns : goal.returns
returns c =
    let h = c.loop-b in
    rest_end (texts_none hex_byte c.args.bytes.now h.b-index (omega arith)) h.invariant.1
