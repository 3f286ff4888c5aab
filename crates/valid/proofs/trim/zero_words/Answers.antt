use Rattle.std.proofs.Common.{rules}
use Rattle.valid.proofs.Zeros.{unseen, one_seen}
use Rattle.valid.proofs.trim.zero_words.Goals as goal

pub loop-i-init : goal.loop-i-init
loop-i-init c = unseen

pub loop-i-preserved : goal.loop-i-preserved
loop-i-preserved c = one_seen c.loop-i.invariant (search rules) c.eight_at-seen.ensures
