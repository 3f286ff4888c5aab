use Rattle.keys.specs.Names.{start_key, ramp_key}
use Rattle.catalogue.specs.Text.{pair, update_line}
use Rattle.catalogue.proofs.WriteLines.{two-laid}
use Rattle.catalogue.proofs.lines.lay_update_line.Goals as goal

pub returns : goal.returns
unfolding update_line
returns c =
    let a = c.args in
    two-laid (pair start_key a.start) (pair ramp_key a.ramp) c.lay_pair-to.ensures c.lay_pair.ensures
