-- The public functions of valid.
use Rattle.std.specs.Prelude.{refl, ℕ, ◌+◌, ◌%◌, leb, length}
use Rattle.std.proofs.Common.{ap}
use Rattle.bits.specs.Language.{pick}
use Rattle.valid.specs.contracts.config_at as config-at
use Rattle.valid.specs.contracts.next_turn as next-turn
use Rattle.valid.specs.contracts.programme_valid as programme-valid
use Rattle.valid.specs.contracts.record_count as record-count
use Rattle.valid.specs.contracts.sample_offset as sample_offset
use Rattle.valid.specs.contracts.timing_valid as timing-valid
use Rattle.valid.specs.contracts.trim_valid as trim-valid
use Rattle.valid.specs.contracts.valid_at as valid-at
use Rattle.oamd.specs.Tables.{config_bytes}
use Rattle.oamd.specs.Trim.{no_config, trim_needed}
use Rattle.record.specs.Bytes.{record_at}
use Rattle.valid.specs.Turns.{turn_behind}
use Rattle.form.specs.Answer.{config_at, trim_at}
use Rattle.form.specs.Valid.{◌and◌, first_start, record_valid, trim_valid}
use Rattle.unique.specs.OneAnswer.{OneAnswer, by_equation, said, both-said, result-set, ◌beside◌}
use Rattle.unique.specs.Record.{enough_or-fewer}

pub one-programme_valid : OneAnswer programme-valid.ended (λ M 𝓤 𝓛. programme-valid.clauses 𝓛) (λ M 𝓤 𝓛. programme-valid.spec 𝓛) (λ κs a. a) (λ κs a r z. r)
one-programme_valid = by_equation (result-set programme-valid.ended) (λ w. refl) _ (λ w κs a r z p. said (λ h. h) p.holds)

pub one-timing_valid : OneAnswer timing-valid.ended (λ M 𝓤 𝓛. timing-valid.clauses 𝓛) (λ M 𝓤 𝓛. timing-valid.spec 𝓛) (λ κs a. a) (λ κs a r z. r)
one-timing_valid = by_equation (result-set timing-valid.ended) (λ w. refl) _ (λ w κs a r z p. said (λ h. h) p.holds)

pub one-record_count : OneAnswer record-count.ended (λ M 𝓤 𝓛. record-count.clauses 𝓛) (λ M 𝓤 𝓛. record-count.spec 𝓛) (λ κs a. a) (λ κs a r z. r)
one-record_count = by_equation (result-set record-count.ended) (λ w. refl) _ (λ w κs a r z p. said (λ h. h.0) p.holds)

pub one-sample_offset : OneAnswer sample_offset.ended (λ M 𝓤 𝓛. sample_offset.clauses 𝓛) (λ M 𝓤 𝓛. sample_offset.spec 𝓛) (λ κs a. a) (λ κs a r z. r)
one-sample_offset =
    by_equation (result-set sample_offset.ended) (λ w. refl) (λ a. record { 0 = first_start a.0 % 32 })
    (λ w κs a r z p. said (λ h. ap (λ (n : ℕ). record { 0 = n }) h) p.holds)

pub one-trim_valid : OneAnswer trim-valid.ended (λ M 𝓤 𝓛. trim-valid.clauses 𝓛) (λ M 𝓤 𝓛. trim-valid.spec 𝓛) (λ κs a. a.0 beside a.1.0.now) (λ κs a r z. r)
one-trim_valid =
    by_equation (result-set trim-valid.ended) (λ w. refl) (λ i. leb (trim_needed i.0) (length i.1) and trim_valid i.0 (trim_at i.0 i.1))
    (λ w κs a r z p. said (λ h. h) p.holds)

pub one-valid_at : OneAnswer valid-at.ended (λ M 𝓤 𝓛. valid-at.clauses 𝓛) (λ M 𝓤 𝓛. valid-at.spec 𝓛) (λ κs a. a.0 beside a.1.0.now beside a.1.1) (λ κs a r z. r)
one-valid_at =
    by_equation (result-set valid-at.ended) (λ w. refl) (λ i. record_valid i.0 (record_at i.1.0 i.1.1.0)) (λ w κs a r z p. said (λ h. h) p.holds)

pub one-next_turn : OneAnswer next-turn.ended (λ M 𝓤 𝓛. next-turn.clauses 𝓛) (λ M 𝓤 𝓛. next-turn.spec 𝓛) (λ κs a. a) (λ κs a r z. r)
one-next_turn = by_equation (result-set next-turn.ended) (λ w. refl) (λ a. turn_behind a.1.0 a.0) (λ w κs a r z p. said (λ h. h) p.holds)

pub one-config_at : OneAnswer config-at.ended (λ M 𝓤 𝓛. config-at.clauses 𝓛) (λ M 𝓤 𝓛. config-at.spec 𝓛) (λ κs a. a.0.now beside a.1) (λ κs a r z. r)
one-config_at =
    by_equation (result-set config-at.ended) (λ w. refl) (λ i. pick (leb (i.1.0 + config_bytes) (length i.0)) (config_at i.0 i.1.0) no_config)
    (λ w κs a r z p. both-said (enough_or-fewer _ _ _ _) p.holds)
