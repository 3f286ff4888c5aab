-- `salvage` of salvaging, and what is told of a drop.
use Rattle.std.specs.Prelude.{refl}
use base.Stored.{Coded-set, coded_via, coded_ℕ, coded×, coded_list}
use Rattle.salvaging.specs.contracts.SalvageAnswer as salvage-answer
use Rattle.salvaging.specs.contracts.answer.DropFromGone.from as drop-from
use Rattle.salvaging.specs.contracts.salvage as salvage
use Rattle.salvaging.specs.Salvage.{Salvaged, salvaging}
use Rattle.unique.specs.OneAnswer.{ClausesOf, SpecOf, OneAnswer, by_equation, said, result-set, ◌beside◌}

-- The answer, with the bytes that it leaves in the lent buffer.
salvaged-set : IsSet Salvaged
salvaged-set =
    Coded-set (coded_via (coded× (salvage-answer.the_row).coded (coded_list coded_ℕ)) (λ (o : Salvaged). o.answer beside o.out)
    (λ x y h i. record { answer = (h i).0; out = (h i).1 }))

-- Two answers, each with the bytes that it leaves in the lent buffer, are the same, buffer too, if the payload's bytes and the bytes that stood in the buffer are.
abbrev pub OneSalvage : ClausesOf salvage.ended → SpecOf salvage.ended → Type 2
OneSalvage clauses spec =
    OneAnswer salvage.ended clauses spec (λ κs a. a.0.now beside a.1.0.now) {O = Salvaged} (λ κs a r z. record { answer = r; out = z.1.0 })

pub one-salvage : OneSalvage (λ M 𝓤 𝓛. salvage.clauses 𝓛) (λ M 𝓤 𝓛. salvage.spec 𝓛)
one-salvage = by_equation (λ κs. salvaged-set) (λ w. refl) (λ i. salvaging i.0 i.1) (λ w κs a r z p. said (λ h. h) p.holds)

-- Of a method of a trait the module has the name of its `impl`, behind that of its file.
pub one-drop_from : OneAnswer drop-from.ended (λ M 𝓤 𝓛. drop-from.clauses 𝓛) (λ M 𝓤 𝓛. drop-from.spec 𝓛) (λ κs a. a) (λ κs a r z. r)
one-drop_from = by_equation (result-set drop-from.ended) (λ w. refl) _ (λ w κs a r z p. said (λ h. h) p.holds)
