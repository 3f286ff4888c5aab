-- The functions that callers use: `read` of reader (and `refused_with`, which makes an answer of a refusal), `write` of writer, and the twelve of host.
use Rattle.std.specs.Prelude.{refl}
use Rattle.host.specs.contracts.skriemelt_catalogue_read as skriemelt-catalogue-read
use Rattle.host.specs.contracts.skriemelt_catalogue_read_on as skriemelt-catalogue-read-on
use Rattle.host.specs.contracts.skriemelt_catalogue_write as skriemelt-catalogue-write
use Rattle.host.specs.contracts.skriemelt_catalogue_write_on as skriemelt-catalogue-write-on
use Rattle.host.specs.contracts.skriemelt_list_text as skriemelt-list-text
use Rattle.host.specs.contracts.skriemelt_read as skriemelt-read
use Rattle.host.specs.contracts.skriemelt_read_batch as skriemelt-read-batch
use Rattle.host_salvage.specs.contracts.skriemelt_salvage as skriemelt-salvage
use Rattle.host.specs.contracts.skriemelt_summarise as skriemelt-summarise
use Rattle.host.specs.contracts.skriemelt_version as skriemelt-version
use Rattle.host.specs.contracts.skriemelt_why as skriemelt-why
use Rattle.host.specs.contracts.skriemelt_write as skriemelt-write
use Rattle.oamd.specs.Answer.{Outcome, reading}
use Rattle.reader.specs.contracts.read as read
use Rattle.reader.specs.contracts.refused_with as refused-with
use Rattle.writer.specs.contracts.write as write
use Rattle.form.specs.Answer.{Written, writing}
use Rattle.unique.specs.Batch.{OneBatch, one-read_batch}
use Rattle.unique.specs.Catalogue.{OneCatalogue, one-write_catalogue, OneCatalogueOn, one-write_catalogue_on, OneBack, one-read_catalogue, OneBackOn, one-read_catalogue_on}
use Rattle.unique.specs.OneAnswer.{ClausesOf, SpecOf, OneAnswer, by_equation, said, result-set, ◌beside◌}
use Rattle.unique.specs.Salvaging.{OneSalvage, one-salvage}
use Rattle.unique.specs.Sets.{outcome-set, written-set}
use Rattle.unique.specs.Sources.{OneWhy, one-why}
use Rattle.unique.specs.Summary.{OneSummary, one-summarise}
use Rattle.unique.specs.Text.{OneText, one-list_text}

-- Two answers, each with the bytes that it leaves in the two lent buffers, are the same, buffers too, if the payload's bytes, the frame and the bytes that stood in
-- the buffers are.
abbrev pub OneReading : ClausesOf read.ended → SpecOf read.ended → Type 2
OneReading clauses spec =
    OneAnswer read.ended clauses spec (λ κs a. a.0.now beside a.1.0 beside a.1.1.0.now beside a.1.1.1.0.now)
    {O = Outcome} (λ κs a r z. record { answer = r; buffer = z.1.1.0; trim = z.1.1.1.0 })

pub one-read : OneReading (λ M 𝓤 𝓛. read.clauses 𝓛) (λ M 𝓤 𝓛. read.spec 𝓛)
one-read = by_equation (λ κs. outcome-set) (λ w. refl) (λ i. reading i.1.0 i.0 i.1.1.0 i.1.1.1) (λ w κs a r z p. said (λ h. h) p.holds)

-- The contract is that of `read`.
pub one-skriemelt_read : OneReading (λ M 𝓤 𝓛. skriemelt-read.clauses 𝓛) (λ M 𝓤 𝓛. skriemelt-read.spec 𝓛)
one-skriemelt_read = one-read

-- The contract is that of `read_batch`.
pub one-skriemelt_read_batch : OneBatch (λ M 𝓤 𝓛. skriemelt-read-batch.clauses 𝓛) (λ M 𝓤 𝓛. skriemelt-read-batch.spec 𝓛)
one-skriemelt_read_batch = one-read_batch

-- Two answers, each with the bytes that it leaves in the payload's buffer, are the same, buffer too, if the programme, the timing, the frame, the record bytes, the
-- bytes of the trim table and those that stood in the payload's buffer are.
abbrev pub OneWriting : ClausesOf write.ended → SpecOf write.ended → Type 2
OneWriting clauses spec =
    OneAnswer write.ended clauses spec (λ κs a. a.0 beside a.1.0 beside a.1.1.0 beside a.1.1.1.0.now beside a.1.1.1.1.0.now beside a.1.1.1.1.1.0.now)
    {O = Written} (λ κs a r z. record { answer = r; out = z.1.1.1.1.1.0 })

pub one-write : OneWriting (λ M 𝓤 𝓛. write.clauses 𝓛) (λ M 𝓤 𝓛. write.spec 𝓛)
one-write =
    by_equation (λ κs. written-set) (λ w. refl) (λ i. writing i.1.1.0 i.0 i.1.0 i.1.1.1.0 i.1.1.1.1.0 i.1.1.1.1.1)
    (λ w κs a r z p. said (λ h. h) p.holds)

-- The contract is that of `write`.
pub one-skriemelt_write : OneWriting (λ M 𝓤 𝓛. skriemelt-write.clauses 𝓛) (λ M 𝓤 𝓛. skriemelt-write.spec 𝓛)
one-skriemelt_write = one-write

-- The contract is that of `list_text`.
pub one-skriemelt_list_text : OneText (λ M 𝓤 𝓛. skriemelt-list-text.clauses 𝓛) (λ M 𝓤 𝓛. skriemelt-list-text.spec 𝓛)
one-skriemelt_list_text = one-list_text

-- The contracts are those of `write_catalogue`, `write_catalogue_on`, `read_catalogue` and `read_catalogue_on`.
pub one-skriemelt_catalogue_write : OneCatalogue (λ M 𝓤 𝓛. skriemelt-catalogue-write.clauses 𝓛) (λ M 𝓤 𝓛. skriemelt-catalogue-write.spec 𝓛)
one-skriemelt_catalogue_write = one-write_catalogue

pub one-skriemelt_catalogue_write_on : OneCatalogueOn (λ M 𝓤 𝓛. skriemelt-catalogue-write-on.clauses 𝓛) (λ M 𝓤 𝓛. skriemelt-catalogue-write-on.spec 𝓛)
one-skriemelt_catalogue_write_on = one-write_catalogue_on

pub one-skriemelt_catalogue_read : OneBack (λ M 𝓤 𝓛. skriemelt-catalogue-read.clauses 𝓛) (λ M 𝓤 𝓛. skriemelt-catalogue-read.spec 𝓛)
one-skriemelt_catalogue_read = one-read_catalogue

pub one-skriemelt_catalogue_read_on : OneBackOn (λ M 𝓤 𝓛. skriemelt-catalogue-read-on.clauses 𝓛) (λ M 𝓤 𝓛. skriemelt-catalogue-read-on.spec 𝓛)
one-skriemelt_catalogue_read_on = one-read_catalogue_on

-- The contract is that of `summarise`.
pub one-skriemelt_summarise : OneSummary (λ M 𝓤 𝓛. skriemelt-summarise.clauses 𝓛) (λ M 𝓤 𝓛. skriemelt-summarise.spec 𝓛)
one-skriemelt_summarise = one-summarise

-- The contract is that of `why`.
pub one-skriemelt_why : OneWhy (λ M 𝓤 𝓛. skriemelt-why.clauses 𝓛) (λ M 𝓤 𝓛. skriemelt-why.spec 𝓛)
one-skriemelt_why = one-why

-- The contract is that of `salvage`.
pub one-skriemelt_salvage : OneSalvage (λ M 𝓤 𝓛. skriemelt-salvage.clauses 𝓛) (λ M 𝓤 𝓛. skriemelt-salvage.spec 𝓛)
one-skriemelt_salvage = one-salvage

pub one-skriemelt_version : OneAnswer skriemelt-version.ended (λ M 𝓤 𝓛. skriemelt-version.clauses 𝓛) (λ M 𝓤 𝓛. skriemelt-version.spec 𝓛) (λ κs a. a) (λ κs a r z. r)
one-skriemelt_version = by_equation (result-set skriemelt-version.ended) (λ w. refl) (λ a. 3004) (λ w κs a r z p. said (λ h. h) p.holds)

pub one-refused_with : OneAnswer refused-with.ended (λ M 𝓤 𝓛. refused-with.clauses 𝓛) (λ M 𝓤 𝓛. refused-with.spec 𝓛) (λ κs a. a) (λ κs a r z. r)
one-refused_with = by_equation (result-set refused-with.ended) (λ w. refl) _ (λ w κs a r z p. said (λ h. h) p.holds)
