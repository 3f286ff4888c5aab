-- The public functions of coding.
use Rattle.std.specs.Prelude.{◌≡◌, refl, List, ◌++◌, ℕ, ◌-◌}
use Rattle.bits.specs.Writes.{to_bits}
use Rattle.coding.proofs.Joins.{one-packed}
use Rattle.coding.specs.contracts.aft as aft
use Rattle.coding.specs.contracts.fore as fore
use Rattle.coding.specs.contracts.bed as bed
use Rattle.coding.specs.contracts.config as config
use Rattle.coding.specs.contracts.divergence as divergence
use Rattle.coding.specs.contracts.field as field
use Rattle.coding.specs.contracts.front as front
use Rattle.coding.specs.contracts.head as head
use Rattle.coding.specs.contracts.lead as lead
use Rattle.coding.specs.contracts.precise as precise
use Rattle.coding.specs.contracts.size as size
use Rattle.coding.specs.contracts.tail as tail
use Rattle.coding.specs.contracts.update as update
use Rattle.coding.specs.contracts.short as short
use Rattle.coding.specs.declared.Packed.{Packed}
use Rattle.coding.specs.Packing.{Packs, opening_bits, fore_bits, aft_bits, head_bits, tail_bits}
use Rattle.form.specs.Coded.{coded_offset, coded_update}
use Rattle.form.specs.Form.{bed_bits, offset_bits, update_bits, size_bits, divergence_bits, precise_bits, config_bits}
use Rattle.unique.specs.OneAnswer.{OneAnswer, by_relation, said, result-set}

-- Two numbers that pack the same bits are the same, with their widths.
packed-once : {I : Type 0} (bits : I → List ℕ) (i : I) (p q : Packed) → Packs p (bits i) → Packs q (bits i) → p ≡ q
packed-once bits i p q h g = let same = one-packed p q (bits i) h g in λ j. record { width = record { 0 = same.0 j }; value = same.1 j }

pub one-fore : OneAnswer fore.ended (λ M 𝓤 𝓛. fore.clauses 𝓛) (λ M 𝓤 𝓛. fore.spec 𝓛) (λ κs a. a) (λ κs a r z. r)
one-fore =
    by_relation (result-set fore.ended) (λ w. refl) (λ a r. Packs r (fore_bits a.0 a.1.0)) (packed-once _)
    (λ w κs a r z p. said (λ h. h.packs) p.holds)

pub one-aft : OneAnswer aft.ended (λ M 𝓤 𝓛. aft.clauses 𝓛) (λ M 𝓤 𝓛. aft.spec 𝓛) (λ κs a. a) (λ κs a r z. r)
one-aft =
    by_relation (result-set aft.ended) (λ w. refl) (λ a r. Packs r (aft_bits a.0)) (packed-once _)
    (λ w κs a r z p. said (λ h. h.packs) p.holds)

pub one-short : OneAnswer short.ended (λ M 𝓤 𝓛. short.clauses 𝓛) (λ M 𝓤 𝓛. short.spec 𝓛) (λ κs a. a) (λ κs a r z. r)
one-short =
    by_relation (result-set short.ended) (λ w. refl) (λ a r. Packs r (opening_bits a.0 a.1.0 ++ to_bits 1 0)) (packed-once _)
    (λ w κs a r z p. said (λ h. h.packs) p.holds)

pub one-head : OneAnswer head.ended (λ M 𝓤 𝓛. head.clauses 𝓛) (λ M 𝓤 𝓛. head.spec 𝓛) (λ κs a. a) (λ κs a r z. r)
one-head =
    by_relation (result-set head.ended) (λ w. refl) (λ a r. Packs r (head_bits a.0)) (packed-once _)
    (λ w κs a r z p. said (λ h. h.packs) p.holds)

pub one-bed : OneAnswer bed.ended (λ M 𝓤 𝓛. bed.clauses 𝓛) (λ M 𝓤 𝓛. bed.spec 𝓛) (λ κs a. a) (λ κs a r z. r)
one-bed =
    by_relation (result-set bed.ended) (λ w. refl) (λ a r. Packs r (bed_bits a.0)) (packed-once _)
    (λ w κs a r z p. said (λ h. h.packs) p.holds)

pub one-tail : OneAnswer tail.ended (λ M 𝓤 𝓛. tail.clauses 𝓛) (λ M 𝓤 𝓛. tail.spec 𝓛) (λ κs a. a) (λ κs a r z. r)
one-tail =
    by_relation (result-set tail.ended) (λ w. refl) (λ a r. Packs r (tail_bits a.0)) (packed-once _)
    (λ w κs a r z p. said (λ h. h.packs) p.holds)

pub one-field : OneAnswer field.ended (λ M 𝓤 𝓛. field.clauses 𝓛) (λ M 𝓤 𝓛. field.spec 𝓛) (λ κs a. a) (λ κs a r z. r)
one-field =
    by_relation (result-set field.ended) (λ w. refl) (λ a r. Packs r (to_bits a.0 a.1.0)) (packed-once _)
    (λ w κs a r z p. said (λ h. h.packs) p.holds)

pub one-lead : OneAnswer lead.ended (λ M 𝓤 𝓛. lead.clauses 𝓛) (λ M 𝓤 𝓛. lead.spec 𝓛) (λ κs a. a) (λ κs a r z. r)
one-lead =
    by_relation (result-set lead.ended) (λ w. refl) (λ a r. Packs r (offset_bits (coded_offset a.0) ++ to_bits 3 (a.1.0 - 1))) (packed-once _)
    (λ w κs a r z p. said (λ h. h.packs) p.holds)

pub one-update : OneAnswer update.ended (λ M 𝓤 𝓛. update.clauses 𝓛) (λ M 𝓤 𝓛. update.spec 𝓛) (λ κs a. a) (λ κs a r z. r)
one-update =
    by_relation (result-set update.ended) (λ w. refl) (λ a r. Packs r (update_bits (coded_update a.0))) (packed-once _)
    (λ w κs a r z p. said (λ h. h.packs) p.holds)

pub one-size : OneAnswer size.ended (λ M 𝓤 𝓛. size.clauses 𝓛) (λ M 𝓤 𝓛. size.spec 𝓛) (λ κs a. a) (λ κs a r z. r)
one-size =
    by_relation (result-set size.ended) (λ w. refl) (λ a r. Packs r (size_bits a.0)) (packed-once _)
    (λ w κs a r z p. said (λ h. h.packs) p.holds)

pub one-front : OneAnswer front.ended (λ M 𝓤 𝓛. front.clauses 𝓛) (λ M 𝓤 𝓛. front.spec 𝓛) (λ κs a. a) (λ κs a r z. r)
one-front =
    by_relation (result-set front.ended) (λ w. refl) (λ a r. Packs r (to_bits 4 a.0 ++ (size_bits a.1.0 ++ to_bits 1 0))) (packed-once _)
    (λ w κs a r z p. said (λ h. h.packs) p.holds)

pub one-divergence : OneAnswer divergence.ended (λ M 𝓤 𝓛. divergence.clauses 𝓛) (λ M 𝓤 𝓛. divergence.spec 𝓛) (λ κs a. a) (λ κs a r z. r)
one-divergence =
    by_relation (result-set divergence.ended) (λ w. refl) (λ a r. Packs r (divergence_bits a.0 a.1.0)) (packed-once _)
    (λ w κs a r z p. said (λ h. h.packs) p.holds)

pub one-precise : OneAnswer precise.ended (λ M 𝓤 𝓛. precise.clauses 𝓛) (λ M 𝓤 𝓛. precise.spec 𝓛) (λ κs a. a) (λ κs a r z. r)
one-precise =
    by_relation (result-set precise.ended) (λ w. refl) (λ a r. Packs r (precise_bits a.0 a.1.0)) (packed-once _)
    (λ w κs a r z p. said (λ h. h.packs) p.holds)

pub one-config : OneAnswer config.ended (λ M 𝓤 𝓛. config.clauses 𝓛) (λ M 𝓤 𝓛. config.spec 𝓛) (λ κs a. a) (λ κs a r z. r)
one-config =
    by_relation (result-set config.ended) (λ w. refl) (λ a r. Packs r (config_bits a.0)) (packed-once _)
    (λ w κs a r z p. said (λ h. h.packs) p.holds)
