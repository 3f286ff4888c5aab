use Rattle.valid.proofs.Entries.{both-assoc}
use Rattle.valid.proofs.Limits.{or-zero, under}
use Rattle.valid.proofs.scenes.over.Goals as goal

pub returns : goal.returns
returns c =
    simp (or-zero, both-assoc) (rw (c.less-4.ensures, under, c.less-3.ensures, under, c.less-2.ensures, under, c.less.ensures, under))
