use Rattle.oamd.specs.Programme.{reserved_data}
use Rattle.syntax.proofs.Lines.{◌▸◌}
use Rattle.syntax.proofs.programme.pass_reserved.Goals as goal

pub returns : goal.returns
unfolding reserved_data
returns c =
    let f = c.has_reserved-has.ensures in
    let g = rw (f, c.new.ensures) at c.skip_if.ensures in
    record { reads = (rw f at c.take_if-size.ensures.reads) ▸ g.reads; empty = g.empty }
