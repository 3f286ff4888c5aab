use Rattle.std.proofs.Common.{refl}
use Rattle.reader.specs.Layout.{no_trim_bytes}
use Rattle.reader.proofs.TrimLoop.{length_none}
use Rattle.reader.proofs.trim.no_trim.Goals as goal

pub returns : goal.returns
unfolding no_trim_bytes
returns c =
    (refl, length_none)
