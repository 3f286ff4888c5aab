use Rattle.keys.specs.Names.{refusal_key, frame_key}
use Rattle.catalogue.specs.Text.{pair, refused_line}
use Rattle.catalogue.proofs.WriteLines.{two-laid}
use Rattle.catalogue.proofs.lines.lay_refused.Goals as goal

pub returns : goal.returns
unfolding refused_line
returns c =
    let a = c.args in
    two-laid (pair frame_key a.frame) (pair refusal_key a.refusal) c.lay_pair-to.ensures c.lay_pair.ensures
