use Rattle.text.proofs.LineLaws.{block-laid}
use Rattle.text.proofs.listing.lay_update.Goals as goal

pub returns : goal.returns
returns c =
    block-laid _ _ _ c.args.u c.raw.ensures c.raw-2.ensures c.lay_bytes-to.ensures c.lay_number-to.ensures
    c.lay_number-to-2.ensures c.lay_number.ensures
