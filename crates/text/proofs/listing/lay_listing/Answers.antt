use Rattle.std.proofs.Common.{eqb-true, sym, ◌∙◌}
use borrow.Author.Tests.{eqb-false}
use Rattle.text.specs.Listing.{listing_of}
use Rattle.text.proofs.LayLaws.{laid-bind}
use Rattle.text.proofs.LineLaws.{accepted-laid, early-laid, refused-laid}
use Rattle.text.proofs.listing.lay_listing.Goals as goal

pub returns-then-a-eq0 : goal.returns-then-a-eq0
unfolding listing_of
returns-then-a-eq0 c =
    laid-bind c.lay_line-to.ensures (laid-bind c.lay_line-to-2.ensures (accepted-laid _ _ _ c.if-a-eq0.true c.lay_tables.ensures))

pub returns-then-ended_early : goal.returns-then-ended_early
unfolding listing_of
returns-then-ended_early c =
    let a = c.args.a in
    laid-bind c.lay_line-to.ensures
    (laid-bind c.lay_line-to-2.ensures (early-laid a.refusal _ _ (eqb-true a.refusal 2 (sym c.ended_early.ensures ∙ c.if-ended_early.true)) c.lay_line.ensures))

pub returns : goal.returns
unfolding listing_of
returns c =
    let a = c.args.a in
    laid-bind c.lay_line-to.ensures
    (refused-laid a.refusal _ _ _ c.if-a-eq0.false (eqb-false a.refusal 2 (sym c.ended_early.ensures ∙ c.if-ended_early.false)) c.lay_line-to-2.ensures)
