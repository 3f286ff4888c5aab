-- Scenes of two payloads that differ for one object alone.
use Rattle.std.specs.Prelude.{◌≡◌, refl, Bool, true, false, ℕ, zero, suc, ◌+◌, ◌-◌, ◌≤◌, eqb, ltb}
use Rattle.std.proofs.Common.{sym, ap, subst, ◌∙◌, arith}
use Rattle.bits.specs.Language.{pick}
use Rattle.oamd.specs.declared.Status.{Status}
use Rattle.oamd.specs.declared.Status.TheVariants.{Default, Full, Reuse, Mixed}
use Rattle.oamd.specs.declared.Gain.{Gain}
use Rattle.oamd.specs.declared.Block.{Block}
use Rattle.oamd.specs.declared.Scene.{Scene}
use Rattle.oamd.specs.Block.{has_gain}
use Rattle.oamd.specs.Meaning.{value_of, zero_db, gain_of, resolve}
use Rattle.oamd.specs.Payload.{Payload}
use Rattle.sources.specs.declared.Field.TheVariants.{GainIdx, GainBits}
use Rattle.sources.specs.declared.Source.TheVariants.{ByField, ByBasicDefault, ByBlock, ByObject}
use Rattle.sources.specs.Sources.{gain_source, gain_from}
use Rattle.sources.specs.Chain.{block_at}
use Rattle.sources.specs.SceneAt.{block_before, gain_before}
use Rattle.own.specs.Own.{Within, LeadsTo, here, from-object, from_block}

-- ---- one block, behind two scenes and beside two gains

-- a scene but for its gain
abbrev pub muted : Scene → Scene
muted s = record {
  active = s.active;
  class = s.class;
  gain = 0;
  priority = s.priority;
  location = s.location;
  volume = s.volume;
  zone = s.zone;
  screen = s.screen;
  snap = s.snap;
}

muted-resolve : (s s' : Scene) (up up' : ℕ) (b : Block) → muted s ≡ muted s' → muted (resolve s up b) ≡ muted (resolve s' up' b)
unfolding resolve
muted-resolve s s' up up' b h = ap (λ (x : Scene). muted (resolve x 0 b)) h

-- a gain takes that of the object before by index 3 alone, and that of the block before by reuse alone
gain-sent : (g : Gain) (up up' : ℕ) → (gain_source false g ≡ ByObject → up ≡ up') → gain_of g up ≡ gain_of g up'
unfolding gain_source gain_of
gain-sent g up up' = go (eqb g.index 0) (eqb g.index 1) (eqb g.index 2)
  where
    v : ℕ
    v = pick (ltb g.bits 15) (zero_db + 15 - g.bits) (zero_db + 14 - g.bits)

    go : (x y z : Bool) → (pick x (ByField GainIdx) (pick y (ByField GainIdx) (pick z (ByField GainBits) ByObject)) ≡ ByObject → up ≡ up')
        → pick x zero_db (pick y 0 (pick z v up)) ≡ pick x zero_db (pick y 0 (pick z v up'))
    go true y z h = refl
    go false true z h = refl
    go false false true h = refl
    go false false false h = h refl

gain-resolve : (first : Bool) (s s' : Scene) (up up' : ℕ) (b : Block) → (gain_from false b ≡ ByObject → up ≡ up')
    → (gain_from first b ≡ ByBlock → s.gain ≡ s'.gain) → (resolve s up b).gain ≡ (resolve s' up' b).gain
unfolding resolve
gain-resolve first s s' up up' b = go b.basic.status (has_gain b.basic.parts)
  where
    g : Gain
    g = b.basic.gain

    go : (status : Status) (sent : Bool) → (value_of status sent ByBasicDefault ByBlock (gain_source false g) ≡ ByObject → up ≡ up')
        → (value_of status sent ByBasicDefault ByBlock (gain_source first g) ≡ ByBlock → s.gain ≡ s'.gain)
        → value_of status sent 0 s.gain (gain_of g up) ≡ value_of status sent 0 s'.gain (gain_of g up')
    go Default sent object block = refl
    go Full sent object block = gain-sent g up up' object
    go Reuse sent object block = block refl
    go Mixed true object block = gain-sent g up up' object
    go Mixed false object block = block refl

-- ---- all blocks of two payloads

-- what leads to object j is object j or stands behind it
pub leads-behind : (block : ℕ → ℕ → Block) (j : ℕ) {i b : ℕ} → LeadsTo block j i b → j ≤ i
leads-behind block j (here b) = omega arith
leads-behind block j (from-object i b e l) = let h = leads-behind block j l in omega arith
leads-behind block j (from_block i b e l) = leads-behind block j l

module _ (j : ℕ) (q q' : Payload) (scene scene' : ℕ → ℕ → Scene)
    (made : (i b : ℕ) → Within q i b → scene i b ≡ resolve (block_before scene i b) (gain_before scene i b) (block_at q i b))
    (made' : (i b : ℕ) → Within q i b → scene' i b ≡ resolve (block_before scene' i b) (gain_before scene' i b) (block_at q' i b))
    (blocks : (i b : ℕ) → Within q i b → (i ≡ j → ⊥) → block_at q i b ≡ block_at q' i b) where
  same_block : (i b : ℕ) → Within q i b → (i ≡ j → ⊥) → scene' i b ≡ resolve (block_before scene' i b) (gain_before scene' i b) (block_at q i b)
  same_block i b w other = made' i b w ∙ ap (resolve (block_before scene' i b) (gain_before scene' i b)) (sym (blocks i b w other))

  -- every other object has the same scenes but for their gains
  muted_next : (i b : ℕ) → Within q i b → (i ≡ j → ⊥) → muted (block_before scene i b) ≡ muted (block_before scene' i b) → muted (scene i b) ≡ muted (scene' i b)
  muted_next i b w other h = ap muted (made i b w) ∙ muted-resolve _ _ _ _ (block_at q i b) h ∙ sym (ap muted (same_block i b w other))

  pub same-muted : (i b : ℕ) → Within q i b → (i ≡ j → ⊥) → muted (scene i b) ≡ muted (scene' i b)
  same-muted i zero w other = muted_next i zero w other refl
  same-muted i (suc b) w other = muted_next i (suc b) w other (same-muted i b (omega arith) other)

  -- and the same gain where it does not lead to object j
  gain_next : (i b : ℕ) → Within q i b → (LeadsTo (block_at q) j i b → ⊥)
      → (gain_from false (block_at q i b) ≡ ByObject → gain_before scene i b ≡ gain_before scene' i b)
      → (gain_from (eqb i 0) (block_at q i b) ≡ ByBlock → (block_before scene i b).gain ≡ (block_before scene' i b).gain) → (scene i b).gain ≡ (scene' i b).gain
  gain_next i b w away object block =
      let other : i ≡ j → ⊥ = λ e. away (subst (λ (x : ℕ). LeadsTo (block_at q) j x b) (sym e) (here b)) in
      ap (λ (s : Scene). s.gain) (made i b w) ∙ gain-resolve (eqb i 0) _ _ _ _ (block_at q i b) object block
      ∙ sym (ap (λ (s : Scene). s.gain) (same_block i b w other))

  gain-along : (i : ℕ)
      → ((b : ℕ) → Within q i b → (LeadsTo (block_at q) j i b → ⊥) → gain_from false (block_at q i b) ≡ ByObject → gain_before scene i b ≡ gain_before scene' i b)
      → (b : ℕ) → Within q i b → (LeadsTo (block_at q) j i b → ⊥) → (scene i b).gain ≡ (scene' i b).gain
  gain-along i object zero w away = gain_next i zero w away (object zero w away) (λ e. refl)
  gain-along i object (suc b) w away =
      gain_next i (suc b) w away (object (suc b) w away) (λ e. gain-along i object b (omega arith) (λ l. away (from_block i b e l)))

  pub same-gain : (i b : ℕ) → Within q i b → (LeadsTo (block_at q) j i b → ⊥) → (scene i b).gain ≡ (scene' i b).gain
  same-gain zero = gain-along zero (λ b w away e. refl)
  same-gain (suc i) = gain-along (suc i) (λ b w away e. same-gain i b (omega arith) (λ l. away (from-object i b e l)))
