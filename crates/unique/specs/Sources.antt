-- `why` of sources, and the methods of its types.
use Rattle.std.specs.Prelude.{refl}
use Rattle.sources.specs.contracts.Field.number as field-number
use Rattle.sources.specs.contracts.Known.told_at as known-told-at
use Rattle.sources.specs.contracts.Source.named as source-named
use Rattle.sources.specs.contracts.Source.number as source-number
use Rattle.sources.specs.contracts.why as why
use Rattle.sources.specs.Asked.{told_at}
use Rattle.sources.specs.Explaining.{explaining}
use Rattle.unique.specs.OneAnswer.{ClausesOf, SpecOf, OneAnswer, by_equation, said, result-set, ◌beside◌}

-- Two answers are the same if the payload's bytes, the object, the block and the byte are.
abbrev pub OneWhy : ClausesOf why.ended → SpecOf why.ended → Type 2
OneWhy clauses spec = OneAnswer why.ended clauses spec (λ κs a. a.0.now beside a.1.0 beside a.1.1.0 beside a.1.1.1.0) (λ κs a r z. r)

pub one-why : OneWhy (λ M 𝓤 𝓛. why.clauses 𝓛) (λ M 𝓤 𝓛. why.spec 𝓛)
one-why = by_equation (result-set why.ended) (λ w. refl) (λ i. explaining i.0 i.1.0 i.1.1.0 i.1.1.1) (λ w κs a r z p. said (λ h. h) p.holds)

pub one-source_number : OneAnswer source-number.ended (λ M 𝓤 𝓛. source-number.clauses 𝓛) (λ M 𝓤 𝓛. source-number.spec 𝓛) (λ κs a. a) (λ κs a r z. r)
one-source_number = by_equation (result-set source-number.ended) (λ w. refl) _ (λ w κs a r z p. said (λ h. h) p.holds)

pub one-field_number : OneAnswer field-number.ended (λ M 𝓤 𝓛. field-number.clauses 𝓛) (λ M 𝓤 𝓛. field-number.spec 𝓛) (λ κs a. a) (λ κs a r z. r)
one-field_number = by_equation (result-set field-number.ended) (λ w. refl) _ (λ w κs a r z p. said (λ h. h) p.holds)

pub one-source_named : OneAnswer source-named.ended (λ M 𝓤 𝓛. source-named.clauses 𝓛) (λ M 𝓤 𝓛. source-named.spec 𝓛) (λ κs a. a) (λ κs a r z. r)
one-source_named = by_equation (result-set source-named.ended) (λ w. refl) _ (λ w κs a r z p. said (λ h. h) p.holds)

-- Of what is told the records are no input: whatever stands in them, where the premise holds it is the same.
pub one-known_told_at : OneAnswer known-told-at.ended (λ M 𝓤 𝓛. known-told-at.clauses 𝓛) (λ M 𝓤 𝓛. known-told-at.spec 𝓛)
    (λ κs a. a.0.payload.now beside a.0.blocks beside a.1.1.1.0 beside a.1.0 beside a.1.1.0) (λ κs a r z. r)
one-known_told_at =
    by_equation (result-set known-told-at.ended) (λ w. refl) (λ i. told_at i.0 i.1.0 i.1.1.0 i.1.1.1.0 i.1.1.1.1) (λ w κs a r z p. said (λ h. h) p.holds)
