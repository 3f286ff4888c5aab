use Rattle.keys.specs.Names.{objects_key, blocks_key, frame_key}
use Rattle.catalogue.specs.Text.{pair, frame_line}
use Rattle.catalogue.proofs.WriteLines.{three-laid}
use Rattle.catalogue.proofs.lines.lay_accepted.Goals as goal

pub returns : goal.returns
unfolding frame_line
returns c =
    let a = c.args in
    three-laid (pair frame_key a.frame) (pair objects_key a.objects) (pair blocks_key a.blocks) c.lay_pair-to.ensures c.lay_pair-to-2.ensures
    c.lay_pair.ensures
