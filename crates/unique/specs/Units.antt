-- The public functions of units: a number in its unit, the number, and what leads from unit to unit.
use Rattle.std.specs.Prelude.{refl, ℕ, ◌+◌, ◌-◌, ◌*◌, ◌/◌, ◌%◌}
use Rattle.std.proofs.Common.{ap}
use Rattle.units.specs.contracts.BitCount.bytes as bit-count-bytes
use Rattle.units.specs.contracts.BitCount.minus as bit-count-minus
use Rattle.units.specs.contracts.BitCount.new as bit-count-new
use Rattle.units.specs.contracts.BitCount.plus as bit-count-plus
use Rattle.units.specs.contracts.BitCount.raw as bit-count-raw
use Rattle.units.specs.contracts.BitPos.after as bit-pos-after
use Rattle.units.specs.contracts.BitPos.new as bit-pos-new
use Rattle.units.specs.contracts.BitPos.raw as bit-pos-raw
use Rattle.units.specs.contracts.BitPos.since as bit-pos-since
use Rattle.units.specs.contracts.ByteCount.bit_count as byte-count-bit-count
use Rattle.units.specs.contracts.ByteCount.bits as byte-count-bits
use Rattle.units.specs.contracts.ByteCount.new as byte-count-new
use Rattle.units.specs.contracts.ByteCount.raw as byte-count-raw
use Rattle.units.specs.contracts.SampleCount.new as sample-count-new
use Rattle.units.specs.contracts.SampleCount.plus as sample-count-plus
use Rattle.units.specs.contracts.SampleCount.raw as sample-count-raw
use Rattle.units.specs.contracts.SampleTime.in_frame as sample-time-in-frame
use Rattle.units.specs.contracts.SampleTime.raw as sample-time-raw
use Rattle.unique.specs.OneAnswer.{OneAnswer, by_equation, said, result-set}

pub one-bit-pos-new : OneAnswer bit-pos-new.ended (λ M 𝓤 𝓛. bit-pos-new.clauses 𝓛) (λ M 𝓤 𝓛. bit-pos-new.spec 𝓛) (λ κs a. a) (λ κs a r z. r)
one-bit-pos-new =
    by_equation (result-set bit-pos-new.ended) (λ w. refl) (λ a. record { 0 = a.0 })
    (λ w κs a r z p. said (λ h. ap (λ (n : ℕ). record { 0 = n }) h) p.holds)

pub one-bit-pos-raw : OneAnswer bit-pos-raw.ended (λ M 𝓤 𝓛. bit-pos-raw.clauses 𝓛) (λ M 𝓤 𝓛. bit-pos-raw.spec 𝓛) (λ κs a. a) (λ κs a r z. r)
one-bit-pos-raw = by_equation (result-set bit-pos-raw.ended) (λ w. refl) _ (λ w κs a r z p. said (λ h. h) p.holds)

pub one-bit-pos-after : OneAnswer bit-pos-after.ended (λ M 𝓤 𝓛. bit-pos-after.clauses 𝓛) (λ M 𝓤 𝓛. bit-pos-after.spec 𝓛) (λ κs a. a) (λ κs a r z. r)
one-bit-pos-after =
    by_equation (result-set bit-pos-after.ended) (λ w. refl) (λ a. record { 0 = (a.0.0 + a.1.0.0) % 4294967296 })
    (λ w κs a r z p. said (λ h. ap (λ (n : ℕ). record { 0 = n }) h) p.holds)

pub one-bit-pos-since : OneAnswer bit-pos-since.ended (λ M 𝓤 𝓛. bit-pos-since.clauses 𝓛) (λ M 𝓤 𝓛. bit-pos-since.spec 𝓛) (λ κs a. a) (λ κs a r z. r)
one-bit-pos-since =
    by_equation (result-set bit-pos-since.ended) (λ w. refl) (λ a. record { 0 = a.0.0 - a.1.0.0 })
    (λ w κs a r z p. said (λ h. ap (λ (n : ℕ). record { 0 = n }) h) p.holds)

pub one-bit-count-new : OneAnswer bit-count-new.ended (λ M 𝓤 𝓛. bit-count-new.clauses 𝓛) (λ M 𝓤 𝓛. bit-count-new.spec 𝓛) (λ κs a. a) (λ κs a r z. r)
one-bit-count-new =
    by_equation (result-set bit-count-new.ended) (λ w. refl) (λ a. record { 0 = a.0 })
    (λ w κs a r z p. said (λ h. ap (λ (n : ℕ). record { 0 = n }) h) p.holds)

pub one-bit-count-raw : OneAnswer bit-count-raw.ended (λ M 𝓤 𝓛. bit-count-raw.clauses 𝓛) (λ M 𝓤 𝓛. bit-count-raw.spec 𝓛) (λ κs a. a) (λ κs a r z. r)
one-bit-count-raw = by_equation (result-set bit-count-raw.ended) (λ w. refl) _ (λ w κs a r z p. said (λ h. h) p.holds)

pub one-bit-count-plus : OneAnswer bit-count-plus.ended (λ M 𝓤 𝓛. bit-count-plus.clauses 𝓛) (λ M 𝓤 𝓛. bit-count-plus.spec 𝓛) (λ κs a. a) (λ κs a r z. r)
one-bit-count-plus =
    by_equation (result-set bit-count-plus.ended) (λ w. refl) (λ a. record { 0 = (a.0.0 + a.1.0.0) % 4294967296 })
    (λ w κs a r z p. said (λ h. ap (λ (n : ℕ). record { 0 = n }) h) p.holds)

pub one-bit-count-minus : OneAnswer bit-count-minus.ended (λ M 𝓤 𝓛. bit-count-minus.clauses 𝓛) (λ M 𝓤 𝓛. bit-count-minus.spec 𝓛) (λ κs a. a) (λ κs a r z. r)
one-bit-count-minus =
    by_equation (result-set bit-count-minus.ended) (λ w. refl) (λ a. record { 0 = a.0.0 - a.1.0.0 })
    (λ w κs a r z p. said (λ h. ap (λ (n : ℕ). record { 0 = n }) h) p.holds)

pub one-bit-count-bytes : OneAnswer bit-count-bytes.ended (λ M 𝓤 𝓛. bit-count-bytes.clauses 𝓛) (λ M 𝓤 𝓛. bit-count-bytes.spec 𝓛) (λ κs a. a) (λ κs a r z. r)
one-bit-count-bytes =
    by_equation (result-set bit-count-bytes.ended) (λ w. refl) (λ a. record { 0 = (a.0.0 + 7) / 8 })
    (λ w κs a r z p. said (λ h. ap (λ (n : ℕ). record { 0 = n }) h) p.holds)

pub one-byte-count-new : OneAnswer byte-count-new.ended (λ M 𝓤 𝓛. byte-count-new.clauses 𝓛) (λ M 𝓤 𝓛. byte-count-new.spec 𝓛) (λ κs a. a) (λ κs a r z. r)
one-byte-count-new =
    by_equation (result-set byte-count-new.ended) (λ w. refl) (λ a. record { 0 = a.0 })
    (λ w κs a r z p. said (λ h. ap (λ (n : ℕ). record { 0 = n }) h) p.holds)

pub one-byte-count-raw : OneAnswer byte-count-raw.ended (λ M 𝓤 𝓛. byte-count-raw.clauses 𝓛) (λ M 𝓤 𝓛. byte-count-raw.spec 𝓛) (λ κs a. a) (λ κs a r z. r)
one-byte-count-raw = by_equation (result-set byte-count-raw.ended) (λ w. refl) _ (λ w κs a r z p. said (λ h. h) p.holds)

pub one-byte-count-bits : OneAnswer byte-count-bits.ended (λ M 𝓤 𝓛. byte-count-bits.clauses 𝓛) (λ M 𝓤 𝓛. byte-count-bits.spec 𝓛) (λ κs a. a) (λ κs a r z. r)
one-byte-count-bits = by_equation (result-set byte-count-bits.ended) (λ w. refl) _ (λ w κs a r z p. said (λ h. h) p.holds)

pub one-byte-count-bit_count : OneAnswer byte-count-bit-count.ended (λ M 𝓤 𝓛. byte-count-bit-count.clauses 𝓛) (λ M 𝓤 𝓛. byte-count-bit-count.spec 𝓛) (λ κs a. a) (λ κs a r z. r)
one-byte-count-bit_count =
    by_equation (result-set byte-count-bit-count.ended) (λ w. refl) (λ a. record { 0 = (8 * a.0.0) % 4294967296 })
    (λ w κs a r z p. said (λ h. ap (λ (n : ℕ). record { 0 = n }) h) p.holds)

pub one-sample-count-new : OneAnswer sample-count-new.ended (λ M 𝓤 𝓛. sample-count-new.clauses 𝓛) (λ M 𝓤 𝓛. sample-count-new.spec 𝓛) (λ κs a. a) (λ κs a r z. r)
one-sample-count-new =
    by_equation (result-set sample-count-new.ended) (λ w. refl) (λ a. record { 0 = a.0 })
    (λ w κs a r z p. said (λ h. ap (λ (n : ℕ). record { 0 = n }) h) p.holds)

pub one-sample-count-raw : OneAnswer sample-count-raw.ended (λ M 𝓤 𝓛. sample-count-raw.clauses 𝓛) (λ M 𝓤 𝓛. sample-count-raw.spec 𝓛) (λ κs a. a) (λ κs a r z. r)
one-sample-count-raw = by_equation (result-set sample-count-raw.ended) (λ w. refl) _ (λ w κs a r z p. said (λ h. h) p.holds)

pub one-sample-count-plus : OneAnswer sample-count-plus.ended (λ M 𝓤 𝓛. sample-count-plus.clauses 𝓛) (λ M 𝓤 𝓛. sample-count-plus.spec 𝓛) (λ κs a. a) (λ κs a r z. r)
one-sample-count-plus =
    by_equation (result-set sample-count-plus.ended) (λ w. refl) (λ a. record { 0 = (a.0.0 + a.1.0.0) % 65536 })
    (λ w κs a r z p. said (λ h. ap (λ (n : ℕ). record { 0 = n }) h) p.holds)

pub one-sample-time-in_frame : OneAnswer sample-time-in-frame.ended (λ M 𝓤 𝓛. sample-time-in-frame.clauses 𝓛) (λ M 𝓤 𝓛. sample-time-in-frame.spec 𝓛)
    (λ κs a. a) (λ κs a r z. r)
one-sample-time-in_frame =
    by_equation (result-set sample-time-in-frame.ended) (λ w. refl) (λ a. record { 0 = a.0 * a.1.0.0 + a.1.1.0.0 })
    (λ w κs a r z p. said (λ h. ap (λ (n : ℕ). record { 0 = n }) h) p.holds)

pub one-sample-time-raw : OneAnswer sample-time-raw.ended (λ M 𝓤 𝓛. sample-time-raw.clauses 𝓛) (λ M 𝓤 𝓛. sample-time-raw.spec 𝓛) (λ κs a. a) (λ κs a r z. r)
one-sample-time-raw = by_equation (result-set sample-time-raw.ended) (λ w. refl) _ (λ w κs a r z p. said (λ h. h) p.holds)
