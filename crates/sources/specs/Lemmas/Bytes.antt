-- A byte of a record, its source and what stands alone, in the scene's part of a record and in the extended element's.
use Rattle.std.specs.Prelude.{◌≡◌, List, ◌++◌, ℕ, ◌+◌, ◌-◌, ◌<◌, eqb}
use Rattle.std.proofs.Math.Path.{ap}
use Rattle.std.proofs.Common.{◌∙◌, arith}
use Rattle.std.proofs.Math.ListN.{get_or, get_or-append}
use Rattle.std.proofs.Math.Seq.{get_or-append-add}
use Rattle.bits.specs.Language.{ok}
use Rattle.bits.specs.Steps.{by_order}
use Rattle.oamd.specs.Tables.{record_bytes}
use Rattle.oamd.specs.declared.Divergence.{Divergence}
use Rattle.oamd.specs.declared.Precise.{Precise}
use Rattle.oamd.specs.Record.{Record, scene_bytes, divergence_bytes, precise_bytes, record_bytes_of}
use Rattle.oamd.specs.Meaning.{resolve}
use Rattle.oamd.specs.Payload.{Payload}
use Rattle.demands.specs.Terms.{parsed}
use Rattle.sources.specs.declared.Source.{Source}
use Rattle.sources.specs.declared.Source.TheVariants.{ByNothing}
use Rattle.sources.specs.Sources.{scene_sources, divergence_sources, precise_sources}
use Rattle.sources.specs.Chain.{objects_in, blocks_in, block_at, record_at, divergence_sent, presence_sent, sources_at, source_at}
use Rattle.sources.specs.Explaining.{value_at}
use Rattle.sources.specs.SceneAt.{block_before, gain_before}
use Rattle.sources.specs.Given.{scene_count, scene_byte, alone, divergence_at, precise_at, own_at}
use Rattle.sources.specs.Lemmas.Records.{record-at, resolved_at}

-- ---- of any record

pub by_part : (X : ℕ → Type 0) (byte : ℕ) → byte < record_bytes → (byte < scene_count → X byte) → ((k : ℕ) → k < 7 → X (scene_count + k)) → X byte
by_part X byte l f g = by_order scene_count byte
    (λ m.
    let e : scene_count + (byte - scene_count) ≡ byte = omega arith in
    rw e at (g (byte - scene_count) (omega arith)))
    f

-- bytes 17 to 23, and their sources
abbrev pub extra_bytes : Divergence → Precise → List ℕ
extra_bytes d p = divergence_bytes d ++ precise_bytes p

abbrev pub extra_sources : List ℕ → Payload → ℕ → ℕ → Divergence → Precise → List Source
extra_sources s q j b d p = divergence_sources (divergence_sent s q j b) d ++ precise_sources (presence_sent s q j b) p

scene-part : (r : Record) (byte : ℕ) → byte < scene_count → get_or (record_bytes_of r) byte 0 ≡ scene_byte byte r.scene
unfolding record_bytes_of
scene-part r byte l = get_or-append (scene_bytes r.scene) (extra_bytes r.divergence r.precise) 0 byte l

extra-part : (r : Record) (k : ℕ) → get_or (record_bytes_of r) (scene_count + k) 0 ≡ get_or (extra_bytes r.divergence r.precise) k 0
unfolding record_bytes_of
extra-part r k = get_or-append-add (scene_bytes r.scene) (extra_bytes r.divergence r.precise) k 0

-- ---- of an accepted payload

module _ (s : List ℕ) {q : Payload} {to : ℕ} (h : parsed s ≡ ok q to) (j b : ℕ) where
  pub value-scene : (byte : ℕ) → byte < scene_count → value_at q byte j b ≡ scene_byte byte (record_at q j b).scene
  unfolding value_at
  value-scene byte l = scene-part (record_at q j b) byte l

  pub value_made : (byte : ℕ) → byte < scene_count → j < objects_in q → b < blocks_in q
      → value_at q byte j b ≡ scene_byte byte (resolve (block_before (λ j b. (record_at q j b).scene) j b) (gain_before (λ j b. (record_at q j b).scene) j b) (block_at q j b))
  value_made byte n l m = value-scene byte n ∙ ap (scene_byte byte) (resolved_at s h j b l m)

  pub value-extra : (k : ℕ) → value_at q (scene_count + k) j b ≡ get_or (extra_bytes (divergence_at q j b) (precise_at q j b)) k 0
  unfolding value_at
  value-extra k = extra-part (record_at q j b) k ∙ ap (λ (r : Record). get_or (extra_bytes r.divergence r.precise) k 0) (record-at s h j b)

  pub own-scene : (byte : ℕ) → byte < scene_count → own_at q byte j b ≡ scene_byte byte (alone (block_at q j b))
  unfolding own_at
  own-scene byte l = scene-part _ byte l

  pub own-extra : (k : ℕ) → own_at q (scene_count + k) j b ≡ get_or (extra_bytes (divergence_at q j b) (precise_at q j b)) k 0
  unfolding own_at
  own-extra k = extra-part _ k

  pub source-scene : (byte : ℕ) → byte < scene_count → source_at s q byte j b ≡ get_or (scene_sources (eqb j 0) (block_at q j b)) byte ByNothing
  unfolding source_at sources_at scene_sources
  source-scene byte l = get_or-append (scene_sources (eqb j 0) (block_at q j b)) (extra_sources s q j b (record_at q j b).divergence (record_at q j b).precise) ByNothing byte l

  pub source-extra : (k : ℕ) → source_at s q (scene_count + k) j b ≡ get_or (extra_sources s q j b (divergence_at q j b) (precise_at q j b)) k ByNothing
  unfolding source_at sources_at scene_sources
  source-extra k =
      get_or-append-add (scene_sources (eqb j 0) (block_at q j b)) (extra_sources s q j b (record_at q j b).divergence (record_at q j b).precise) k ByNothing
      ∙ ap (λ (r : Record). get_or (extra_sources s q j b r.divergence r.precise) k ByNothing) (record-at s h j b)
