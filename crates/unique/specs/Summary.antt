-- `summarise` of summary.
use Rattle.std.specs.Prelude.{refl}
use Rattle.summary.specs.contracts.summarise as summarise
use Rattle.summary.specs.Summary.{summing}
use Rattle.unique.specs.OneAnswer.{ClausesOf, SpecOf, OneAnswer, by_equation, said, result-set, ◌beside◌}

-- Two summaries are the same if the store's bytes and both lists are.
abbrev pub OneSummary : ClausesOf summarise.ended → SpecOf summarise.ended → Type 2
OneSummary clauses spec = OneAnswer summarise.ended clauses spec (λ κs a. a.0.now beside a.1.0.now beside a.1.1.0.now) (λ κs a r z. r)

pub one-summarise : OneSummary (λ M 𝓤 𝓛. summarise.clauses 𝓛) (λ M 𝓤 𝓛. summarise.spec 𝓛)
one-summarise = by_equation (result-set summarise.ended) (λ w. refl) (λ i. summing i.0 i.1.0 i.1.1) (λ w κs a r z p. said (λ h. h) p.holds)
