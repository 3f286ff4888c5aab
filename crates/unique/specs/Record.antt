-- The public functions of record.
use Rattle.std.specs.Prelude.{◌≡◌, refl, Bool, true, false, ℕ, ◌+◌, ◌*◌, ◌<◌, ◌≤◌, leb, length}
use Rattle.std.proofs.Common.{ap, leb-true, leb-false}
use Rattle.unique.specs.Sets.{bytes-set}
use Rattle.bits.specs.Language.{pick}
use Rattle.record.specs.contracts.carries as carries
use Rattle.record.specs.contracts.carries_at as carries-at
use Rattle.record.specs.contracts.divergence_at as divergence-at
use Rattle.record.specs.contracts.gain_at as gain-at
use Rattle.record.specs.contracts.has_bytes as has-bytes
use Rattle.record.specs.contracts.precise_at as precise-at
use Rattle.record.specs.contracts.scene_at as scene-at
use Rattle.record.specs.contracts.store_divergence as store-divergence
use Rattle.record.specs.contracts.store_precise as store-precise
use Rattle.record.specs.contracts.store_scene as store-scene
use Rattle.record.specs.contracts.eight_at as eight-at
use Rattle.record.specs.contracts.has_time as has-time
use Rattle.record.specs.contracts.next_block as next-block
use Rattle.record.specs.contracts.store_eight as store-eight
use Rattle.record.specs.contracts.store_time as store-time
use Rattle.record.specs.contracts.time_of as time-of
use Rattle.oamd.specs.Extended.{no_divergence, no_precise}
use Rattle.oamd.specs.LeastFirst.{least_first, least_at}
use Rattle.oamd.specs.Meaning.{idle}
use Rattle.oamd.specs.Record.{record_of, record_bytes_of, divergence_bytes, precise_bytes}
use Rattle.oamd.specs.Tables.{record_bytes, frame_samples}
use Rattle.oamd.specs.Time.{time_bytes_of}
use Rattle.record.specs.Bytes.{divergence_byte, precise_byte, set_from, scene_at, divergence_at, precise_at, time_at, same_bytes}
use Rattle.unique.specs.OneAnswer.{OneAnswer, by_equation, said, both-said, result-set, ◌beside◌}

-- One clause for enough bytes and one for fewer: these are all cases, and each has one answer.
pub enough_or-fewer : {A : Type 0} (n m : ℕ) (x y : A) {r : A} → (n ≤ m → r ≡ x) → (m < n → r ≡ y) → r ≡ pick (leb n m) x y
enough_or-fewer n m x y {r} enough fewer = go (leb n m) refl
  where
    go : (t : Bool) → leb n m ≡ t → r ≡ pick t x y
    go true q = enough (leb-true n m q)
    go false q = fewer (leb-false n m q)

pub one-carries : OneAnswer carries.ended (λ M 𝓤 𝓛. carries.clauses 𝓛) (λ M 𝓤 𝓛. carries.spec 𝓛) (λ κs a. a) (λ κs a r z. r)
one-carries = by_equation (result-set carries.ended) (λ w. refl) _ (λ w κs a r z p. said (λ h. h) p.holds)

pub one-has_bytes : OneAnswer has-bytes.ended (λ M 𝓤 𝓛. has-bytes.clauses 𝓛) (λ M 𝓤 𝓛. has-bytes.spec 𝓛) (λ κs a. a.0.now beside a.1) (λ κs a r z. r)
one-has_bytes =
    by_equation (result-set has-bytes.ended) (λ w. refl) (λ i. leb (i.1.0 + i.1.1.0) (length i.0)) (λ w κs a r z p. said (λ h. h) p.holds)

pub one-carries_at : OneAnswer carries-at.ended (λ M 𝓤 𝓛. carries-at.clauses 𝓛) (λ M 𝓤 𝓛. carries-at.spec 𝓛) (λ κs a. a.0.now beside a.1) (λ κs a r z. r)
one-carries_at =
    by_equation (result-set carries-at.ended) (λ w. refl) (λ i. Rattle.oamd.specs.Record.carries (scene_at i.0 i.1.0))
    (λ w κs a r z p. said (λ h. h) p.holds)

pub one-gain_at : OneAnswer gain-at.ended (λ M 𝓤 𝓛. gain-at.clauses 𝓛) (λ M 𝓤 𝓛. gain-at.spec 𝓛) (λ κs a. a.0.now beside a.1) (λ κs a r z. r)
one-gain_at = by_equation (result-set gain-at.ended) (λ w. refl) (λ i. (scene_at i.0 i.1.0).gain) (λ w κs a r z p. said (λ h. h) p.holds)

pub one-scene_at : OneAnswer scene-at.ended (λ M 𝓤 𝓛. scene-at.clauses 𝓛) (λ M 𝓤 𝓛. scene-at.spec 𝓛) (λ κs a. a.0.now beside a.1) (λ κs a r z. r)
one-scene_at =
    by_equation (result-set scene-at.ended) (λ w. refl) (λ i. pick (leb (i.1.0 + record_bytes) (length i.0)) (scene_at i.0 i.1.0) (idle 0))
    (λ w κs a r z p. both-said (enough_or-fewer _ _ _ _) p.holds)

pub one-divergence_at : OneAnswer divergence-at.ended (λ M 𝓤 𝓛. divergence-at.clauses 𝓛) (λ M 𝓤 𝓛. divergence-at.spec 𝓛) (λ κs a. a.0.now beside a.1) (λ κs a r z. r)
one-divergence_at =
    by_equation (result-set divergence-at.ended) (λ w. refl) (λ i. pick (leb (i.1.0 + record_bytes) (length i.0)) (divergence_at i.0 i.1.0) no_divergence)
    (λ w κs a r z p. both-said (enough_or-fewer _ _ _ _) p.holds)

pub one-precise_at : OneAnswer precise-at.ended (λ M 𝓤 𝓛. precise-at.clauses 𝓛) (λ M 𝓤 𝓛. precise-at.spec 𝓛) (λ κs a. a.0.now beside a.1) (λ κs a r z. r)
one-precise_at =
    by_equation (result-set precise-at.ended) (λ w. refl) (λ i. pick (leb (i.1.0 + record_bytes) (length i.0)) (precise_at i.0 i.1.0) no_precise)
    (λ w κs a r z p. both-said (enough_or-fewer _ _ _ _) p.holds)

pub one-time_of : OneAnswer time-of.ended (λ M 𝓤 𝓛. time-of.clauses 𝓛) (λ M 𝓤 𝓛. time-of.spec 𝓛) (λ κs a. a) (λ κs a r z. r)
one-time_of =
    by_equation (result-set time-of.ended) (λ w. refl) (λ a. record { 0 = a.0 * frame_samples + a.1.0.0 })
    (λ w κs a r z p. said (λ h. ap (λ (n : ℕ). record { 0 = n }) h) p.holds)

pub one-next_block : OneAnswer next-block.ended (λ M 𝓤 𝓛. next-block.clauses 𝓛) (λ M 𝓤 𝓛. next-block.spec 𝓛) (λ κs a. a) (λ κs a r z. r)
one-next_block = by_equation (result-set next-block.ended) (λ w. refl) _ (λ w κs a r z p. said (λ h. h) p.holds)

pub one-has_time : OneAnswer has-time.ended (λ M 𝓤 𝓛. has-time.clauses 𝓛) (λ M 𝓤 𝓛. has-time.spec 𝓛) (λ κs a. a.0.now beside a.1) (λ κs a r z. r)
one-has_time =
    by_equation (result-set has-time.ended) (λ w. refl) (λ i. same_bytes (time_at i.0 i.1.0) (time_bytes_of i.1.1.0.0))
    (λ w κs a r z p. said (λ h. h) p.holds)

pub one-eight_at : OneAnswer eight-at.ended (λ M 𝓤 𝓛. eight-at.clauses 𝓛) (λ M 𝓤 𝓛. eight-at.spec 𝓛) (λ κs a. a.0.now beside a.1) (λ κs a r z. r)
one-eight_at = by_equation (result-set eight-at.ended) (λ w. refl) (λ i. least_at 8 i.0 i.1.0) (λ w κs a r z p. said (λ h. h.is) p.holds)

-- ---- what is stored: the bytes that are left in the lent buffer

pub one-store_scene : OneAnswer store-scene.ended (λ M 𝓤 𝓛. store-scene.clauses 𝓛) (λ M 𝓤 𝓛. store-scene.spec 𝓛) (λ κs a. a.0.now beside a.1)
    (λ κs a r z. z.0)
one-store_scene =
    by_equation (λ κs. bytes-set) (λ w. refl) (λ i. set_from i.1.0 0 (record_bytes_of (record_of i.1.1.0 no_divergence no_precise)) i.0)
    (λ w κs a r z p. said (λ h. h) p.holds)

pub one-store_divergence : OneAnswer store-divergence.ended (λ M 𝓤 𝓛. store-divergence.clauses 𝓛) (λ M 𝓤 𝓛. store-divergence.spec 𝓛) (λ κs a. a.0.now beside a.1)
    (λ κs a r z. z.0)
one-store_divergence =
    by_equation (λ κs. bytes-set) (λ w. refl) (λ i. set_from i.1.0 divergence_byte (divergence_bytes i.1.1.0) i.0)
    (λ w κs a r z p. said (λ h. h) p.holds)

pub one-store_precise : OneAnswer store-precise.ended (λ M 𝓤 𝓛. store-precise.clauses 𝓛) (λ M 𝓤 𝓛. store-precise.spec 𝓛) (λ κs a. a.0.now beside a.1)
    (λ κs a r z. z.0)
one-store_precise =
    by_equation (λ κs. bytes-set) (λ w. refl) (λ i. set_from i.1.0 precise_byte (precise_bytes i.1.1.0) i.0)
    (λ w κs a r z p. said (λ h. h) p.holds)

pub one-store_time : OneAnswer store-time.ended (λ M 𝓤 𝓛. store-time.clauses 𝓛) (λ M 𝓤 𝓛. store-time.spec 𝓛) (λ κs a. a.0.now beside a.1) (λ κs a r z. z.0)
one-store_time =
    by_equation (λ κs. bytes-set) (λ w. refl) (λ i. set_from i.1.0 record_bytes (time_bytes_of i.1.1.0.0) i.0) (λ w κs a r z p. said (λ h. h) p.holds)

pub one-store_eight : OneAnswer store-eight.ended (λ M 𝓤 𝓛. store-eight.clauses 𝓛) (λ M 𝓤 𝓛. store-eight.spec 𝓛) (λ κs a. a.0.now beside a.1) (λ κs a r z. z.0)
one-store_eight =
    by_equation (λ κs. bytes-set) (λ w. refl) (λ i. set_from i.1.0 0 (least_first 8 i.1.1.0) i.0) (λ w κs a r z p. said (λ h. h) p.holds)
