-- The four calls of catalogue.
use Rattle.std.specs.Prelude.{refl}
use base.Stored.{Coded-set, coded_via, coded_ℕ, coded×, coded_list}
use Rattle.catalogue.specs.contracts.BackAnswer as back-answer
use Rattle.catalogue.specs.contracts.CatalogueAnswer as catalogue-answer
use Rattle.catalogue.specs.contracts.read_catalogue as read-catalogue
use Rattle.catalogue.specs.contracts.read_catalogue_on as read-catalogue-on
use Rattle.catalogue.specs.contracts.write_catalogue as write-catalogue
use Rattle.catalogue.specs.contracts.write_catalogue_on as write-catalogue-on
use Rattle.catalogue.specs.Answer.{Catalogued, cataloguing, Backed, reading_back}
use Rattle.catalogue.specs.Calls.{CataloguedAlone, cataloguing_alone, BackedAlone, reading_back_alone}
use Rattle.unique.specs.OneAnswer.{ClausesOf, SpecOf, OneAnswer, by_equation, said, ◌beside◌}

-- Answers, with the bytes that they leave in the lent buffers.
catalogued-set : IsSet Catalogued
catalogued-set =
    Coded-set (coded_via (coded× (catalogue-answer.the_row).coded (coded× (coded_list coded_ℕ) (coded_list coded_ℕ))) (λ (o : Catalogued). o.answer beside o.before beside o.text)
    (λ x y h i. record { answer = (h i).0; before = (h i).1.0; text = (h i).1.1 }))

catalogued-alone-set : IsSet CataloguedAlone
catalogued-alone-set =
    Coded-set (coded_via (coded× (catalogue-answer.the_row).coded (coded_list coded_ℕ)) (λ (o : CataloguedAlone). o.answer beside o.text)
    (λ x y h i. record { answer = (h i).0; text = (h i).1 }))

backed-set : IsSet Backed
backed-set =
    Coded-set (coded_via (coded× (back-answer.the_row).coded (coded× (coded_list coded_ℕ) (coded× (coded_list coded_ℕ) (coded_list coded_ℕ))))
    (λ (o : Backed). o.answer beside o.before beside o.lines beside o.records)
    (λ x y h i. record { answer = (h i).0; before = (h i).1.0; lines = (h i).1.1.0; records = (h i).1.1.1 }))

backed-alone-set : IsSet BackedAlone
backed-alone-set =
    Coded-set (coded_via (coded× (back-answer.the_row).coded (coded× (coded_list coded_ℕ) (coded_list coded_ℕ))) (λ (o : BackedAlone). o.answer beside o.lines beside o.records)
    (λ x y h i. record { answer = (h i).0; lines = (h i).1.0; records = (h i).1.1 }))

-- Two answers of a call that lays a catalogue, each with the bytes that it leaves in the two lent buffers, are the same, buffers too, if the store's bytes, the three lists and the bytes that stood in
-- the buffers are.
abbrev pub OneCatalogueOn : ClausesOf write-catalogue-on.ended → SpecOf write-catalogue-on.ended → Type 2
OneCatalogueOn clauses spec =
    OneAnswer write-catalogue-on.ended clauses spec
    (λ κs a. a.0.now beside a.1.0.now beside a.1.1.0.now beside a.1.1.1.0.now beside a.1.1.1.1.0.now beside a.1.1.1.1.1.0.now)
    {O = Catalogued} (λ κs a r z. record { answer = r; before = z.1.1.1.1.0; text = z.1.1.1.1.1.0 })

pub one-write_catalogue_on : OneCatalogueOn (λ M 𝓤 𝓛. write-catalogue-on.clauses 𝓛) (λ M 𝓤 𝓛. write-catalogue-on.spec 𝓛)
one-write_catalogue_on =
    by_equation (λ κs. catalogued-set) (λ w. refl) (λ i. cataloguing i.0 i.1.0 i.1.1.0 i.1.1.1.0 i.1.1.1.1.0 i.1.1.1.1.1)
    (λ w κs a r z p. said (λ h. h) p.holds)

-- without an update before
abbrev pub OneCatalogue : ClausesOf write-catalogue.ended → SpecOf write-catalogue.ended → Type 2
OneCatalogue clauses spec =
    OneAnswer write-catalogue.ended clauses spec (λ κs a. a.0.now beside a.1.0.now beside a.1.1.0.now beside a.1.1.1.0.now beside a.1.1.1.1.0.now)
    {O = CataloguedAlone} (λ κs a r z. record { answer = r; text = z.1.1.1.1.0 })

pub one-write_catalogue : OneCatalogue (λ M 𝓤 𝓛. write-catalogue.clauses 𝓛) (λ M 𝓤 𝓛. write-catalogue.spec 𝓛)
one-write_catalogue =
    by_equation (λ κs. catalogued-alone-set) (λ w. refl) (λ i. cataloguing_alone i.0 i.1.0 i.1.1.0 i.1.1.1.0 i.1.1.1.1)
    (λ w κs a r z p. said (λ h. h) p.holds)

-- Two answers of a call that reads one back, each with the bytes that it leaves in the three lent buffers, are the same, buffers too, if the text's bytes and the bytes that stood in the buffers are.
abbrev pub OneBackOn : ClausesOf read-catalogue-on.ended → SpecOf read-catalogue-on.ended → Type 2
OneBackOn clauses spec =
    OneAnswer read-catalogue-on.ended clauses spec (λ κs a. a.0.now beside a.1.0.now beside a.1.1.0.now beside a.1.1.1.0.now)
    {O = Backed} (λ κs a r z. record { answer = r; before = z.1.0; lines = z.1.1.0; records = z.1.1.1.0 })

pub one-read_catalogue_on : OneBackOn (λ M 𝓤 𝓛. read-catalogue-on.clauses 𝓛) (λ M 𝓤 𝓛. read-catalogue-on.spec 𝓛)
one-read_catalogue_on =
    by_equation (λ κs. backed-set) (λ w. refl) (λ i. reading_back i.0 i.1.0 i.1.1.0 i.1.1.1) (λ w κs a r z p. said (λ h. h) p.holds)

-- without an update before
abbrev pub OneBack : ClausesOf read-catalogue.ended → SpecOf read-catalogue.ended → Type 2
OneBack clauses spec =
    OneAnswer read-catalogue.ended clauses spec (λ κs a. a.0.now beside a.1.0.now beside a.1.1.0.now)
    {O = BackedAlone} (λ κs a r z. record { answer = r; lines = z.1.0; records = z.1.1.0 })

pub one-read_catalogue : OneBack (λ M 𝓤 𝓛. read-catalogue.clauses 𝓛) (λ M 𝓤 𝓛. read-catalogue.spec 𝓛)
one-read_catalogue =
    by_equation (λ κs. backed-alone-set) (λ w. refl) (λ i. reading_back_alone i.0 i.1.0 i.1.1) (λ w κs a r z p. said (λ h. h) p.holds)
