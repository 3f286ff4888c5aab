use Rattle.text.proofs.LineLaws.{shares-laid}
use Rattle.text.proofs.listing.lay_shares.Goals as goal

pub returns : goal.returns
returns c =
    shares-laid c.args.p _ c.shares-of.ensures.0 c.lay_line-to.ensures c.lay_line-to-2.ensures c.lay_line-to-3.ensures
    c.lay_line.ensures
