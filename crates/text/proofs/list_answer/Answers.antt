-- `list_answer` meets its contract: the length first, then the room, then the text. Assumes nothing.
use Rattle.std.proofs.Common.{ap, ℕ, ◌∙◌}
use Rattle.text.specs.declared.TextAnswer.{TextAnswer}
use Rattle.text.specs.Listing.{listing_of}
use Rattle.text.specs.Answer.{text_answer}
use Rattle.text.proofs.Whole.{gives, no_room, fits}
use Rattle.text.proofs.list_answer.Goals as goal

pub returns-then-text-needed : goal.returns-then-text-needed
returns-then-text-needed c =
    let a = c.args in
    ap (λ (r : TextAnswer). gives r a.text.now) (c.answered.ensures ∙ ap (λ (n : ℕ). text_answer n c.lay_listing-needed.result 0) c.number.ensures.0)
    ∙ no_room (listing_of a.a a.records.now) a.text.now c.requires.records_len_bound _ c.lay_listing-needed.ensures.next c.if-text-needed.true

pub returns : goal.returns
returns c =
    let a = c.args in
    ap (λ (r : TextAnswer). gives r c.lay_listing.new.text) c.answered-2.ensures
    ∙ fits (listing_of a.a a.records.now) a.text.now c.requires.records_len_bound _ c.lay_listing-needed.ensures.next _ _ c.if-text-needed.false c.lay_listing.ensures
