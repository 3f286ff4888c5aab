-- Where a chain ends, the byte of the record is what its source gives.
use Rattle.std.specs.Prelude.{◌≡◌, refl, List, ℕ, ◌+◌, ◌<◌, eqb}
use Rattle.std.proofs.Common.{sym, arith}
use Rattle.bits.specs.Language.{ok}
use Rattle.oamd.specs.Tables.{record_bytes}
use Rattle.oamd.specs.Programme.{shares, class_of}
use Rattle.oamd.specs.Payload.{Payload}
use Rattle.demands.specs.Terms.{parsed}
use Rattle.sources.specs.declared.Field.{Field}
use Rattle.sources.specs.declared.Source.TheVariants.{ByField}
use Rattle.sources.specs.Coded.{coded_sign, coded_value}
use Rattle.sources.specs.Chain.{objects_in, blocks_in, block_at, record_at, source_at, Step, steps_from}
use Rattle.sources.specs.Explaining.{value_at}
use Rattle.sources.specs.SceneAt.{none_above}
use Rattle.sources.specs.Given.{scene_count, last_of, divergence_at, precise_at, field_gives, Gives, GivesAt}
use Rattle.sources.specs.Lemmas.ByField.{scene-gives}
use Rattle.sources.specs.Lemmas.Blocks.{read_at}
use Rattle.sources.specs.Lemmas.Extras.{by-extras}
use Rattle.sources.specs.Lemmas.Records.{record-at, quiet_at}
use Rattle.sources.specs.Lemmas.Bytes.{by_part, value_made, value-extra, source-scene, source-extra}
use Rattle.sources.specs.Ends.{led-from}

module _ (s : List ℕ) {q : Payload} {to : ℕ} (h : parsed s ≡ ok q to) where
  -- each of the 24 bytes of the record of each block of each object, of an accepted payload
  pub gives : (byte j b : ℕ) → byte < record_bytes → j < objects_in q → b < blocks_in q → GivesAt s q byte j b
  gives byte j b n l m = by_part (λ byte. GivesAt s q byte j b) byte n
      (λ n. rw (source-scene s h j b byte n, value_made s h j b byte n l m)
      (scene-gives _ _ (eqb j 0) _ (block_at q j b) _ _ (none_above (λ j b. (record_at q j b).scene) j b) (read_at s h j b l m) byte n))
      (λ k n. rw (source-extra s h j b k, value-extra s h j b k, record-at s h j b)
      (by-extras (λ k x v. Gives (block_at q j b) (divergence_at q j b) (precise_at q j b) (class_of (shares q.programme) j) (scene_count + k) v x) (block_at q j b) _ _
      (divergence_at q j b) (precise_at q j b) (quiet_at s h j b l m) (λ k f own. sym (own _ _)) (λ k. refl) k n))

  -- so a byte that comes from a field is what this gives by its number as coded
  pub field-gives : (byte j b : ℕ) → byte < record_bytes → j < objects_in q → b < blocks_in q → (f : Field) → source_at s q byte j b ≡ ByField f
      → value_at q byte j b
      ≡ field_gives f (coded_value f (block_at q j b) (record_at q j b).divergence (record_at q j b).precise) (coded_sign (block_at q j b).render.position)
  field-gives byte j b n l m f is = rw is at (gives byte j b n l m)

  -- and at the end of a chain from any of them stands a byte that its source gives
  pub end-gives : (byte j b : ℕ) → byte < record_bytes → j < objects_in q → b < blocks_in q → (none : Step)
      → let last = last_of none (steps_from (source_at s q byte) j b) in
      (last.source ≡ source_at s q byte last.object last.block) × GivesAt s q byte last.object last.block
  end-gives byte j b n l m none =
      let r = led-from s h byte j b n l m in
      let near = r.near none in
      ((r.last none).0, gives byte _ _ n (omega arith) (omega arith))
