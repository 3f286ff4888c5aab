use Rattle.std.proofs.Common.{arith}
use Rattle.catalogue.proofs.WriteWhole.{kept}
use Rattle.catalogue.proofs.before.keep_before.Goals as goal

pub returns : goal.returns
returns c =
    let a = c.args in
    let latest = a.latest.now in
    kept a.before.now c.requires latest.count.n latest.bytes latest.count.few (omega arith) c.lay_byte-to.ensures c.lay_bytes.ensures
