-- What the definitions give, an answer with the lent buffers, are sets, since each part of it is.
use Rattle.std.specs.Prelude.{List, ℕ}
use base.Stored.{Coded-set, coded_via, coded_ℕ, coded×, coded_list}
use Rattle.oamd.specs.contracts.BatchAnswer as batch-answer
use Rattle.oamd.specs.contracts.ReadAnswer as read_answer
use Rattle.oamd.specs.contracts.WriteAnswer as write-answer
use Rattle.oamd.specs.Answer.{Outcome}
use Rattle.oamd.specs.Batch.{Batched}
use Rattle.form.specs.Answer.{Written}
use Rattle.unique.specs.OneAnswer.{◌beside◌}

pub bytes-set : IsSet (List ℕ)
bytes-set = Coded-set (coded_list coded_ℕ)

pub outcome-set : IsSet Outcome
outcome-set =
    Coded-set (coded_via (coded× (read_answer.the_row).coded (coded× (coded_list coded_ℕ) (coded_list coded_ℕ))) (λ (o : Outcome). o.answer beside o.buffer beside o.trim)
    (λ x y h i. record { answer = (h i).0; buffer = (h i).1.0; trim = (h i).1.1 }))

pub written-set : IsSet Written
written-set =
    Coded-set (coded_via (coded× (write-answer.the_row).coded (coded_list coded_ℕ)) (λ (o : Written). o.answer beside o.out)
    (λ x y h i. record { answer = (h i).0; out = (h i).1 }))

pub batched-set : IsSet Batched
batched-set =
    Coded-set (coded_via (coded× (batch-answer.the_row).coded (coded× (coded_list coded_ℕ) (coded× (coded_list coded_ℕ) (coded_list coded_ℕ))))
    (λ (o : Batched). o.answer beside o.shelf.records beside o.shelf.trims beside o.shelf.answers)
    (λ x y h i. record { answer = (h i).0; shelf = record { records = (h i).1.0; trims = (h i).1.1.0; answers = (h i).1.1.1 } }))
