use Rattle.std.proofs.Common.{rules}
use Rattle.sources.proofs.Tellings.{scene-told}
use Rattle.sources.proofs.Known.told_of_scene.Goals as goal

pub returns : goal.returns
returns c =
    scene-told c.requires.0 c.named.ensures c.requires.1 c.find_block-placed.ensures
    (rw c.scene_sources.ensures at c.source_in-source.ensures) (search rules)
