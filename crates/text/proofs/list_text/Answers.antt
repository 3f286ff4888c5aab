-- `list_text` meets its contract: the listing of what was read is that of the payload, and short enough to be measured. Assumes nothing.
use Rattle.std.proofs.Common.{List, ap, arith, ℕ, ◌∙◌}
use Rattle.text.specs.Answer.{texted}
use Rattle.text.proofs.Whole.{zeros-are, listed, listed-few, listed-holds}
use Rattle.text.proofs.list_text.Goals as goal

pub list_answer-requires-clause-holds : goal.list_answer-requires-clause-holds
list_answer-requires-clause-holds c =
    listed-holds c.args.payload.now _ _ _ _ _ (zeros-are _).0 (zeros-are _).0 c.read-a.ensures (omega arith)

pub list_answer-requires-clause-records_len_bound : goal.list_answer-requires-clause-records_len_bound
list_answer-requires-clause-records_len_bound c =
    listed-few c.args.payload.now _ _ _ _ _ (zeros-are _).0 (zeros-are _).0 c.read-a.ensures (omega arith)

pub returns : goal.returns
returns c =
    c.list_answer.ensures
    ∙ ap (λ (l : List ℕ). texted l c.args.text.now)
    (listed c.args.payload.now _ _ _ _ _ (zeros-are _).0 (zeros-are _).0 c.read-a.ensures)
