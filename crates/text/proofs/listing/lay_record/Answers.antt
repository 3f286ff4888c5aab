use Rattle.text.proofs.LineLaws.{record-laid}
use Rattle.text.proofs.listing.lay_record.Goals as goal

pub returns : goal.returns
returns c =
    let a = c.args in
    record-laid a.object a.blk a.records.now a.from c.lay_bytes-to.ensures c.lay_number-to.ensures c.lay_number-to-2.ensures
    c.lay_hex-to.ensures c.lay_byte.ensures
