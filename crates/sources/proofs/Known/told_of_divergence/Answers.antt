use Rattle.std.proofs.Common.{arith, rules}
use Rattle.sources.proofs.Chaining.{record_fits}
use Rattle.sources.proofs.Tellings.{divergence-told}
use Rattle.sources.proofs.Known.told_of_divergence.Goals as goal

pub returns : goal.returns
returns c =
    let pre = c.requires in
    let fits = record_fits pre.0 pre.1 in
    let index = c.index_of-at.ensures in
    divergence-told pre.0 pre.1 index c.named.ensures pre.2 (c.divergence_at-d.ensures.there (omega (arith, index, fits))) c.find_divergence-extra.ensures
    (rw c.divergence_sources.ensures at c.source_in-source.ensures) (search rules)
