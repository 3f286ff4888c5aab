use Rattle.std.proofs.Common.{arith, refl, rules}
use Rattle.catalogue.proofs.BackFrames.{reached_none, further, reached_more, reached-bad, reached_all}
use Rattle.catalogue.proofs.pages.read_frames.Goals as goal

pub loop-r-init : goal.loop-r-init
loop-r-init c = (reached_none _ _ _ _ _ refl refl (omega arith) (omega arith), search rules)

pub returns-in_err-page : goal.returns-in_err-page
returns-in_err-page c = let e = reached-bad c.loop-r.invariant.0 (search rules) c.in_err-page.ensures.read in search rules

pub overflow_add-t : goal.overflow_add-t
overflow_add-t c = record { fits = omega (arith, c.loop-r.invariant.0.many, c.loop-r.invariant.0.fewer) }

pub loop-r-smaller : goal.loop-r-smaller
loop-r-smaller c = omega (arith, further c.loop-r.invariant.0 (search rules) c.in_ok-page.ensures.read)

pub loop-r-preserved : goal.loop-r-preserved
loop-r-preserved c =
    (reached_more c.loop-r.invariant.0 (search rules) c.in_ok-page.page c.read_sheet.new.store c.in_ok-page.ensures.read c.in_ok-page.ensures.last c.lay_line.ensures c.lay_records.ensures, search rules)

pub returns : goal.returns
returns c = reached_all c.loop-r.invariant.0 (search rules)
