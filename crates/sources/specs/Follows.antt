-- Every byte of a record follows from its source.
use Rattle.std.specs.Prelude.{◌≡◌, refl, false, List, ℕ, zero, suc, ◌+◌, ◌-◌, ◌<◌, eqb, get_or}
use Rattle.std.proofs.Common.{sym, ap, ap₂, ◌∙◌, true≢false, arith}
use Rattle.bits.specs.Language.{ok}
use Rattle.oamd.proofs.Seed.{Alone}
use Rattle.oamd.specs.Tables.{record_bytes}
use Rattle.oamd.specs.declared.Scene.{Scene}
use Rattle.oamd.specs.Payload.{Payload}
use Rattle.demands.specs.Terms.{parsed}
use Rattle.sources.specs.declared.Source.{Source}
use Rattle.sources.specs.declared.Source.TheVariants.{ByField, ByProgramme, ByBasicDefault, ByRenderDefault, ByNothing, ByBlock, ByMove, ByObject}
use Rattle.sources.specs.Sources.{scene_sources}
use Rattle.sources.specs.Chain.{objects_in, blocks_in, block_at, record_at}
use Rattle.sources.specs.Explaining.{value_at}
use Rattle.sources.specs.SceneAt.{block_before, gain_before, none_above}
use Rattle.sources.specs.Given.{moved_in, gain_byte, scene_count, scene_byte, Follows, divergence_at, precise_at, FollowsAt}
use Rattle.sources.specs.Lemmas.BySource.{scene-follows}
use Rattle.sources.specs.Lemmas.Blocks.{first_at}
use Rattle.sources.specs.Lemmas.Extras.{by-extras}
use Rattle.sources.specs.Lemmas.Records.{quiet_at}
use Rattle.sources.specs.Lemmas.Bytes.{by_part, value-scene, value_made, value-extra, own-scene, own-extra, source-scene, source-extra}

-- the same in other words for what stands before, above, alone and now
follows_as : {behind behind' beside beside' : Type 0} (byte : ℕ) {before before' above above' own own' now now' : ℕ} (x : Source) → (behind → behind' × (before ≡ before'))
    → (beside → byte ≡ gain_byte → beside' × (above ≡ above')) → own ≡ own' → now ≡ now' → Follows behind beside byte before above own now x
    → Follows behind' beside' byte before' above' own' now' x
follows_as byte (ByField f) block object own now h = sym now ∙ h ∙ own
follows_as byte ByProgramme block object own now h = sym now ∙ h ∙ own
follows_as byte ByBasicDefault block object own now h = sym now ∙ h ∙ own
follows_as byte ByRenderDefault block object own now h = sym now ∙ h ∙ own
follows_as byte ByNothing block object own now h = (sym now ∙ h.0 ∙ own, sym now ∙ h.1)
follows_as byte ByBlock block object own now h = let x = block h.0 in (x.0, sym now ∙ h.1 ∙ x.1)
follows_as byte (ByMove f d) block object own now h = let x = block h.0 in (x.0, h.1, sym now ∙ h.2 ∙ ap (λ (v : ℕ). moved_in byte v d) x.1)
follows_as byte ByObject block object own now h = let x = object h.0 h.1 in (x.0, h.1, sym now ∙ h.2 ∙ x.1)

module _ (s : List ℕ) {q : Payload} {to : ℕ} (h : parsed s ≡ ok q to) where
  abbrev scene : ℕ → ℕ → Scene
  scene j b = (record_at q j b).scene

  -- a block that takes something from the block before is not the first of its object
  before_at : (byte j b : ℕ) → byte < scene_count → j < objects_in q → b < blocks_in q → (Alone (block_at q j b) → ⊥)
      → (0 < b) × (scene_byte byte (block_before scene j b) ≡ value_at q byte j (b - 1))
  before_at byte j zero n l m k = absurd (k (first_at s h j l m))
  before_at byte j (suc b) n l m k =
      let e : b ≡ suc b - 1 = omega arith in
      (omega arith, sym (value-scene s h j b byte n) ∙ ap (value_at q byte j) e)

  above_at : (byte j b : ℕ) → eqb j 0 ≡ false → byte ≡ gain_byte → (0 < j) × (gain_before scene j b ≡ value_at q byte (j - 1) b)
  above_at byte zero b k g = absurd (true≢false k)
  above_at byte (suc j) b k g =
      let e : j ≡ suc j - 1 = omega arith in
      (omega arith, sym (value-scene s h j b gain_byte (omega arith)) ∙ ap₂ (λ (byte j : ℕ). value_at q byte j b) (sym g) e)

  -- each of the 24 bytes of the record of each block of each object, of an accepted payload
  pub follows : (byte j b : ℕ) → byte < record_bytes → j < objects_in q → b < blocks_in q → FollowsAt s q byte j b
  follows byte j b n l m = by_part (λ byte. FollowsAt s q byte j b) byte n
      (λ n. rw (source-scene s h j b byte n) (follows_as byte (get_or (scene_sources (eqb j 0) (block_at q j b)) byte ByNothing) (before_at byte j b n l m) (above_at byte j b)
      (sym (own-scene s h j b byte n)) (sym (value_made s h j b byte n l m))
      (scene-follows (block_before scene j b) (gain_before scene j b) (eqb j 0) (block_at q j b) (none_above scene j b) byte n)))
      (λ k n. rw (source-extra s h j b k, value-extra s h j b k, own-extra s h j b k)
      (by-extras (λ k x v. Follows (0 < b) (0 < j) (scene_count + k) (value_at q (scene_count + k) j (b - 1)) (value_at q (scene_count + k) (j - 1) b) v v x) (block_at q j b)
      _ _ (divergence_at q j b) (precise_at q j b) (quiet_at s h j b l m) (λ k f own. refl) (λ k. (refl, refl)) k n))
