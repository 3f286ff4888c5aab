-- The public functions of reader that are not a caller's: the header and the timing of a payload, whose cursor is one but for its own value, and so is what was read; its
-- limit, and what salvage drops of it, by equations.
use Rattle.std.specs.Prelude.{◌≡◌, refl, Bool, true, false, List, ℕ, eqb}
use Rattle.std.proofs.Common.{sym, ap, ap₂, ◌∙◌}
use Rattle.std.specs.Coded.{coded_ℕ, coded×}
use Rattle.bits.specs.declared.Cur.{Cur}
use Rattle.bits.specs.declared.Limit.{Limit}
use Rattle.bits.specs.Language.{Res, ok, no, P, bit, pick}
use Rattle.bits.specs.Unique.{one-reads}
use Rattle.bits.specs.View.{Reads, valued}
use Rattle.oamd.specs.contracts.Programme as programme
use Rattle.oamd.specs.contracts.Timing as timing
use Rattle.oamd.specs.declared.Programme.{Programme}
use Rattle.oamd.specs.declared.Timing.{Timing}
use Rattle.oamd.specs.Timing.{md_update_info, timing_of}
use Rattle.oamd.specs.Payload.{Header, header}
use Rattle.reader.specs.contracts.limit_of as limit-of
use Rattle.reader.specs.contracts.read_head as read_head
use Rattle.reader.specs.contracts.read_timing as read-timing
use Rattle.reader.specs.contracts.sift as sift
use Rattle.reader.specs.Sifts.{sifted}
use Rattle.reader.specs.Steps.{start_cur, whole_of}
use Rattle.unique.specs.OneAnswer.{OneAnswer, by_equation, by_relation, said, result-set, ◌beside◌}
use Rattle.unique.specs.Readings.{as_read, reading-set}

pub one-limit_of : OneAnswer limit-of.ended (λ M 𝓤 𝓛. limit-of.clauses 𝓛) (λ M 𝓤 𝓛. limit-of.spec 𝓛) (λ κs a. a.0.now) (λ κs a r z. r)
one-limit_of = by_equation (result-set limit-of.ended) (λ w. refl) whole_of (λ w κs a r z p. said (λ h. h) p.holds)

pub one-sift : OneAnswer sift.ended (λ M 𝓤 𝓛. sift.clauses 𝓛) (λ M 𝓤 𝓛. sift.spec 𝓛) (λ κs a. a.0.now) (λ κs a r z. r)
one-sift = by_equation (result-set sift.ended) (λ w. refl) sifted (λ w κs a r z p. said (λ h. h) p.holds)

-- the cursor but for its value, and what was read
abbrev read_as : {A : Type 0} → A → Cur → Cur × Res A
read_as v d = (valued d 0, as_read v d)

abbrev mapped : {A B : Type 0} → (A → B) → Res A → Res B
mapped f (ok v at) = ok (f v) at
mapped f (no r place missing) = no r place missing

made_of : {A B : Type 0} (f : A → B) (v : A) (d : Cur) → as_read (f v) d ≡ mapped f (as_read v d)
made_of f v d = go (eqb d.no 0)
  where
    go : (x : Bool) → pick x (ok (f v) d.at.0) (no d.no d.at.0 d.missing) ≡ mapped f (pick x (ok v d.at.0) (no d.no d.at.0 d.missing))
    go true = refl
    go false = refl

module _ {A B I : Type 0} (p : P A) (f : A → B) (bytes : I → List ℕ) (limit : I → Limit) (cursor : I → Cur) (i : I) where
  abbrev ReadBy : Cur × Res B → Type 0
  ReadBy o = (v : A) × (d : Cur) × Reads p (bit (bytes i)) (cursor i) (limit i) v d × (o ≡ read_as (f v) d)

  read-once : (o o' : Cur × Res B) → ReadBy o → ReadBy o' → o ≡ o'
  read-once o o' t t' =
      let value : as_read t.0 t.1 ≡ as_read t'.0 t'.1 = t.2.same ∙ sym t'.2.same in
      t.3 ∙ ap₂ (λ (d : Cur) (x : Res B). (d, x)) (one-reads t.2 t'.2).0 (made_of f t.0 t.1 ∙ ap (mapped f) value ∙ sym (made_of f t'.0 t'.1)) ∙ sym t'.3

pub one-read_timing : OneAnswer read-timing.ended (λ M 𝓤 𝓛. read-timing.clauses 𝓛) (λ M 𝓤 𝓛. read-timing.spec 𝓛)
    (λ κs a. a.0.now beside a.1) (λ κs a r z. read_as r.value r.cur)
one-read_timing =
    by_relation (λ κs. reading-set (timing.the_row).coded) (λ w. refl) (ReadBy md_update_info timing_of (λ i. i.0) (λ i. i.1.0) (λ i. i.1.1.0))
    (read-once md_update_info timing_of (λ i. i.0) (λ i. i.1.0) (λ i. i.1.1.0))
    (λ w κs a r z p. said (λ h. (h.value, r.cur, h.reads, ap (λ (x : Timing). read_as x r.cur) h.holds)) p.holds)

-- the programme and the flag for alternate ids
abbrev both_parts : Programme → ℕ → Programme × ℕ
both_parts p alternate = (p, alternate)

abbrev parts : Header → Programme × ℕ
parts h = both_parts h.programme h.alternate

pub one-read_head : OneAnswer read_head.ended (λ M 𝓤 𝓛. read_head.clauses 𝓛) (λ M 𝓤 𝓛. read_head.spec 𝓛)
    (λ κs a. a.0.now) (λ κs a r z. read_as (both_parts r.value.programme r.value.alternate) r.cur)
one-read_head =
    by_relation (λ κs. reading-set (coded× (programme.the_row).coded coded_ℕ)) (λ w. refl) (ReadBy header parts (λ i. i) whole_of (λ i. start_cur))
    (read-once header parts (λ i. i) whole_of (λ i. start_cur))
    (λ w κs a r z p. said (λ h. (record { programme = r.value.programme; alternate = r.value.alternate }, r.cur, h.head.reads, refl)) p.holds)
