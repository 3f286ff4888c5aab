-- What a function that reads has done: the cursor, and what was read, as one value.
use Rattle.std.specs.Prelude.{◌≡◌, refl, List, ◌⊎◌, ℕ}
use Rattle.std.proofs.Common.{sym, ap, ap₂, ◌∙◌, inl, inr}
use base.Stored.{Coded, Coded-set, coded_via, coded_ℕ, coded×, coded⊎}
use Rattle.bits.specs.contracts.Cur as cur
use Rattle.bits.specs.declared.Cur.{Cur}
use Rattle.bits.specs.declared.Limit.{Limit}
use Rattle.bits.specs.Language.{Res, ok, no, P, bit}
use Rattle.bits.specs.Unique.{one-took, one-gave}
use Rattle.bits.specs.View.{go_on, Took, Gave, valued}

-- The value v and the position of the cursor d, or the refusal that d carries: its number, its place and how many bits were missing. Behind a refusal the
-- value that is handed on does not count: the contracts leave it open, and nothing looks at it.
abbrev pub as_read : {A : Type 0} → A → Cur → Res A
as_read v d = go_on d (λ at. ok v at)

-- A cursor that holds what was read, and a value beside the cursor: the cursor, but for a value that it holds, and what was read.
abbrev pub holding : Cur → Cur × Res ℕ
holding d = (valued d 0, as_read d.v d)

abbrev pub giving : {A : Type 0} → A → Cur → Cur × Res A
giving v d = (d, as_read v d)

-- The inputs of such a function: the bytes, the limit, the cursor, and others.
abbrev pub From : Type 0 → Type 0
From X = List ℕ × (Limit × (Cur × X))

module _ {X : Type 0} (p : From X → P ℕ) (n : From X → ℕ) (i : From X) where
  abbrev pub TookBy : Cur × Res ℕ → Type 0
  TookBy o = (d : Cur) × Took (p i) (n i) (bit i.0) i.1.1.0 i.1.0 d × (o ≡ holding d)

  pub took-once : (o o' : Cur × Res ℕ) → TookBy o → TookBy o' → o ≡ o'
  took-once o o' t t' =
      let value : as_read t.0.v t.0 ≡ as_read t'.0.v t'.0 = t.1.reads.same ∙ sym t'.1.reads.same in
      t.2 ∙ ap₂ (λ (d : Cur) (x : Res ℕ). (d, x)) (one-took t.1 t'.1).0 value ∙ sym t'.2

module _ {A X : Type 0} (p : From X → P A) (i : From X) where
  abbrev pub GaveBy : Cur × Res A → Type 0
  GaveBy o = (v : A) × (d : Cur) × Gave (p i) (bit i.0) i.1.1.0 i.1.0 v d × (o ≡ giving v d)

  pub gave-once : (o o' : Cur × Res A) → GaveBy o → GaveBy o' → o ≡ o'
  gave-once o o' t t' =
      let value : as_read t.0 t.1 ≡ as_read t'.0 t'.1 = t.2.reads.same ∙ sym t'.2.reads.same in
      t.3 ∙ ap₂ (λ (d : Cur) (x : Res A). (d, x)) (one-gave t.2 t'.2).0 value ∙ sym t'.3

-- ---- what was read is no more than its parts
abbrev Parts : Type 0 → Type 0
Parts A = (A × ℕ) ⊎ (ℕ × (ℕ × ℕ))

abbrev apart : {A : Type 0} → Res A → Parts A
apart (ok v at) = inl (v, at)
apart (no r place missing) = inr (r, (place, missing))

abbrev together : {A : Type 0} → Parts A → Res A
together (inl p) = ok p.0 p.1
together (inr p) = no p.0 p.1.0 p.1.1

back : {A : Type 0} (x : Res A) → together (apart x) ≡ x
back (ok v at) = refl
back (no r place missing) = refl

pub reading-set : {A : Type 0} → Coded A → IsSet (Cur × Res A)
reading-set c =
    let parts = coded⊎ (coded× c coded_ℕ) (coded× coded_ℕ (coded× coded_ℕ coded_ℕ)) in
    Coded-set (coded× (cur.the_row).coded (coded_via parts apart λ x y h. sym (back x) ∙ ap together h ∙ back y))
