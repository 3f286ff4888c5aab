use Rattle.std.proofs.Common.{arith}
use Rattle.bits.proofs.Free.{looks-give, ◌▹◌}
use Rattle.oamd.specs.Block.{status_idx}
use Rattle.syntax.proofs.glance.look_status.Goals as goal

pub returns-then-none : goal.returns-then-none
unfolding status_idx
returns-then-none c =
    rw c.if-none.true (record { looks = looks-give; near = omega arith })

pub returns-then-first : goal.returns-then-first
unfolding status_idx
returns-then-first c =
    rw (c.if-none.false, c.if-first.true) (record { looks = looks-give; near = omega arith })

pub returns : goal.returns
unfolding status_idx
returns c =
    let seen = c.look-code.ensures.1 in
    rw (c.if-none.false, c.if-first.false, c.status_of.ensures) (record { looks = seen.looks ▹ looks-give; near = seen.near })
