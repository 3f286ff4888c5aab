-- The exception, as a chain of sources tells it.
use Rattle.std.specs.Prelude.{◌≡◌, Bool, true, false, ◌↔◌, List, eqb}
use Rattle.std.proofs.Math.Path.{refl, subst}
use Rattle.std.proofs.Common.{sym, ap, ◌∙◌, true≢false}
use Rattle.std.proofs.Math.Logic.{inl, inr}
use Prim.Native.Nat.{ℕ, zero, suc, ◌+◌, ◌-◌, ◌<◌}
use native.Mathlib.Omega.{arith}
use Rattle.std.proofs.Math.Dec.{eqb-suc-zero}
use Rattle.bits.specs.Steps.{by_order}
use Rattle.oamd.specs.declared.Status.{Status}
use Rattle.oamd.specs.declared.Status.TheVariants.{Default, Full, Reuse, Mixed}
use Rattle.oamd.specs.declared.Block.{Block}
use Rattle.oamd.specs.Block.{has_gain}
use Rattle.oamd.specs.Meaning.{value_of}
use Rattle.oamd.specs.Payload.{Payload}
use Rattle.sources.specs.declared.Source.{Source}
use Rattle.sources.specs.declared.Source.TheVariants.{ByField, ByProgramme, ByBasicDefault, ByRenderDefault, ByNothing, ByBlock, ByMove, ByObject}
use Rattle.sources.specs.Sources.{gain_source, gain_from, scene_sources}
use Rattle.sources.specs.Chain.{objects_in, blocks_in, block_at, sources_at, source_at, behind, chain}
use Rattle.sources.specs.Lemmas.BySource.{by-gain}
use Rattle.own.specs.Own.{Within, Edit, LeadsTo, here, from-object, from_block, Passes, LeadsBack}
use Rattle.own.specs.Lemmas.Near.{leads-behind}

-- ---- no gain is moved

abbrev is_move : Source → Bool
is_move (ByField f) = false
is_move ByProgramme = false
is_move ByBasicDefault = false
is_move ByRenderDefault = false
is_move ByNothing = false
is_move ByBlock = false
is_move (ByMove f d) = true
is_move ByObject = false

unmoved : (first : Bool) (b : Block) → is_move (gain_from first b) ≡ false
unmoved first b = go b.basic.status (has_gain b.basic.parts)
  where
    sent : is_move (gain_source first b.basic.gain) ≡ false
    sent = by-gain (λ x own now. is_move x ≡ false) b.basic.gain first 0 (λ e. refl) (λ e. refl) (λ v e. refl) (λ f e. refl) (λ f. refl)

    go : (status : Status) (has : Bool) → is_move (value_of status has ByBasicDefault ByBlock (gain_source first b.basic.gain)) ≡ false
    go Default has = refl
    go Full has = sent
    go Reuse has = refl
    go Mixed true = sent
    go Mixed false = refl

-- ---- both ways

module _ (block : ℕ → ℕ → Block) (j : ℕ) where
  source : ℕ → ℕ → Source
  source i b = gain_from (eqb i 0) (block i b)

  passes : (fuel : ℕ) {i b : ℕ} → LeadsTo block j i b → i + b < fuel → Passes j (chain source fuel i b)
  unfolding chain source
  passes zero l f = absurd (omega arith)
  passes (suc fuel) (here b) f = inl refl
  passes (suc fuel) (from-object i b e l) f =
      let d : suc i - 1 ≡ i = omega arith in
      inr (rw (eqb-suc-zero i, e, d) (passes fuel l (omega arith)))
  passes (suc fuel) (from_block i b e l) f =
      let d : suc b - 1 ≡ b = omega arith in
      inr (rw (e, d) (passes fuel l (omega arith)))

  by-object : (i b : ℕ) → source i b ≡ ByObject → LeadsTo block j (i - 1) b → LeadsTo block j i b
  unfolding source
  by-object zero b e l = l
  by-object (suc i) b e l =
      let d : suc i - 1 ≡ i = omega arith in
      from-object i b (rw (eqb-suc-zero i) at e) (rw d at l)

  by-block : (i b : ℕ) → source i b ≡ ByBlock → LeadsTo block j i (b - 1) → LeadsTo block j i b
  unfolding source
  by-block i zero e l = l
  by-block i (suc b) e l =
      let d : suc b - 1 ≡ b = omega arith in
      from_block i b e (rw d at l)

  leads : (fuel i b : ℕ) → Passes j (chain source fuel i b) → LeadsTo block j i b
  unfolding chain source
  leads zero i b p = absurd p
  leads (suc fuel) i b (inl e) = subst (λ (x : ℕ). LeadsTo block j x b) (sym e) (here b)
  leads (suc fuel) i b (inr p) = go (source i b) refl p (leads fuel i (b - 1)) (leads fuel (i - 1) b)
    where
      go : (x : Source) → source i b ≡ x → Passes j (behind x (chain source fuel i (b - 1)) (chain source fuel (i - 1) b))
          → (Passes j (chain source fuel i (b - 1)) → LeadsTo block j i (b - 1)) → (Passes j (chain source fuel (i - 1) b) → LeadsTo block j (i - 1) b) → LeadsTo block j i b
      go (ByField f) e p below above = absurd p
      go ByProgramme e p below above = absurd p
      go ByBasicDefault e p below above = absurd p
      go ByRenderDefault e p below above = absurd p
      go ByNothing e p below above = absurd p
      go ByBlock e p below above = by-block i b e (below p)
      go (ByMove f d) e p below above = absurd (true≢false (ap is_move (sym e) ∙ unmoved (eqb i 0) (block i b)))
      go ByObject e p below above = by-object i b e (above p)

-- A gain comes from object j exactly if a step of its chain is one of object j's.
pub chains : (s : List ℕ) (q : Payload) (j i b : ℕ) → LeadsTo (block_at q) j i b ↔ LeadsBack s q j i b
unfolding source_at sources_at scene_sources source
chains s q j i b = (λ l. passes (block_at q) j (i + b + 1) l (omega arith), leads (block_at q) j (i + b + 1) i b)

-- ---- in either payload

moved : (block block' : ℕ → ℕ → Block) (j m n : ℕ) → ((i b : ℕ) → i < m → b < n → (i ≡ j → ⊥) → block i b ≡ block' i b) → {i b : ℕ} → i < m → b < n
    → LeadsTo block j i b → LeadsTo block' j i b
moved block block' j m n same l k (here b) = here b
moved block block' j m n same l k (from-object i b e h) =
    let x = leads-behind block j h in
    from-object i b (ap (gain_from false) (sym (same (suc i) b l k (λ z. omega arith))) ∙ e) (moved block block' j m n same (omega arith) k h)
moved block block' j m n same l k (from_block i b e h) =
    let x = leads-behind block j h in
    by_order i j
    (λ y. let z : j ≡ i = omega arith in subst (λ (i : ℕ). LeadsTo block' j i (suc b)) z (here (suc b)))
    (λ y. from_block i b (ap (gain_from (eqb i 0)) (sym (same i (suc b) l k (λ z. omega arith))) ∙ e) (moved block block' j m n same l (omega arith) h))

-- Of two payloads that differ for object j alone, it does so in both or in neither.
pub either : (frame : ℕ) (s s' buffer trim : List ℕ) (q q' : Payload) (j : ℕ) → Edit frame s s' buffer trim q q' j → (i b : ℕ) → Within q i b
    → LeadsTo (block_at q) j i b ↔ LeadsTo (block_at q') j i b
either frame s s' buffer trim q q' j e i b w = (
  moved (block_at q) (block_at q') j (objects_in q) (blocks_in q) (λ i b l k. e.differ.blocks i b (record { object = l; block = k })) w.object w.block,
  moved (block_at q') (block_at q) j (objects_in q) (blocks_in q) (λ i b l k other. sym (e.differ.blocks i b (record { object = l; block = k }) other)) w.object w.block,
)
