-- `read_batch` and `read_entry` of batch.
use Rattle.std.specs.Prelude.{refl}
use Rattle.batch.specs.contracts.read_batch as read-batch
use Rattle.batch.specs.contracts.read_entry as read-entry
use Rattle.oamd.specs.Answer.{Outcome}
use Rattle.oamd.specs.Batch.{Batched, entry, batching}
use Rattle.unique.specs.OneAnswer.{ClausesOf, SpecOf, OneAnswer, by_equation, said, ◌beside◌}
use Rattle.unique.specs.Sets.{outcome-set, batched-set}

-- Two answers, each with the bytes that it leaves in the two lent buffers, are the same, buffers too, if the store's bytes, the start, the length, the frame and the
-- bytes that stood in the buffers are.
pub one-read_entry : OneAnswer read-entry.ended (λ M 𝓤 𝓛. read-entry.clauses 𝓛) (λ M 𝓤 𝓛. read-entry.spec 𝓛)
    (λ κs a. a.0.now beside a.1.0 beside a.1.1.0 beside a.1.1.1.0 beside a.1.1.1.1.0.now beside a.1.1.1.1.1.0.now)
    {O = Outcome} (λ κs a r z. record { answer = r; buffer = z.1.1.1.1.0; trim = z.1.1.1.1.1.0 })
one-read_entry =
    by_equation (λ κs. outcome-set) (λ w. refl) (λ i. entry i.1.1.1.0 i.0 i.1.0 i.1.1.0 i.1.1.1.1.0 i.1.1.1.1.1)
    (λ w κs a r z p. said (λ h. h) p.holds)

-- Two answers of a shelf, each with the bytes that it leaves in the three lent buffers, are the same, buffers too, if the store's bytes, the three lists, both slot lengths and the
-- bytes that stood in the buffers are.
abbrev pub OneBatch : ClausesOf read-batch.ended → SpecOf read-batch.ended → Type 2
OneBatch clauses spec =
    OneAnswer read-batch.ended clauses spec
    (λ κs a. a.0.now beside a.1.0.now beside a.1.1.0.now beside a.1.1.1.0.now beside a.1.1.1.1.0 beside a.1.1.1.1.1.0
    beside a.1.1.1.1.1.1.0.now beside a.1.1.1.1.1.1.1.0.now beside a.1.1.1.1.1.1.1.1.0.now)
    {O = Batched} (λ κs a r z. record {
      answer = r;
      shelf = record { records = z.1.1.1.1.1.1.0; trims = z.1.1.1.1.1.1.1.0; answers = z.1.1.1.1.1.1.1.1.0 };
    })

pub one-read_batch : OneBatch (λ M 𝓤 𝓛. read-batch.clauses 𝓛) (λ M 𝓤 𝓛. read-batch.spec 𝓛)
one-read_batch =
    by_equation (λ κs. batched-set) (λ w. refl)
    (λ i. batching i.0 i.1.0 i.1.1.0 i.1.1.1.0 i.1.1.1.1.0 i.1.1.1.1.1.0
    (record { records = i.1.1.1.1.1.1.0; trims = i.1.1.1.1.1.1.1.0; answers = i.1.1.1.1.1.1.1.1 }))
    (λ w κs a r z p. said (λ h. h) p.holds)
