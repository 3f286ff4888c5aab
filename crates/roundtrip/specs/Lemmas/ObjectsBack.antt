-- 5.5.8: the blocks of all objects are read back as they were written, and mean the records.
use Rattle.std.specs.Prelude.{◌≡◌, true, drop, eqb}
use Rattle.std.proofs.Math.Path.{refl, subst}
use Rattle.std.proofs.Common.{sym, ap, ap₂, ◌∙◌, length-drop, take-append-drop}
use mathlib.Core.List.{List, [], ◌∷◌, ◌++◌, map, map-append}
use Prim.Native.Nat.{ℕ, zero, suc, ◌+◌, ◌*◌, ◌/◌, ◌≤◌, ◌<◌}
use native.Mathlib.Omega.{arith}
use Rattle.std.proofs.Math.Nat.{suc-mul, zero-mul}
use Rattle.std.proofs.Math.Arith.{digits_div}
use Rattle.std.proofs.Math.ListN.{length, take}
use Rattle.std.proofs.Math.Seq.{length-take-le}
use Rattle.bits.specs.Language.{from}
use Rattle.bits.specs.Back.{w-each}
use Rattle.bits.specs.Terms.{Along, Writes, Every}
use Rattle.oamd.specs.declared.Shares.{Shares}
use Rattle.oamd.specs.declared.Block.{Block}
use Rattle.oamd.specs.declared.Scene.{Scene}
use Rattle.oamd.specs.Programme.{class_of}
use Rattle.oamd.specs.Block.{object_info_block}
use Rattle.oamd.specs.ObjectElement.{object_data}
use Rattle.oamd.specs.Meaning.{first_gain, behind_first, nothing_before, scenes_from, scenes_of, all_scenes}
use Rattle.oamd.specs.Record.{Record}
use Rattle.form.specs.Valid.{scene_valid, record_valid, first_bad}
use Rattle.form.specs.Form.{block_bits, by_object, object_data_bits}
use Rattle.form.specs.Lemmas.Tests.{halves, by-test}
use Rattle.roundtrip.specs.Lemmas.Entries.{ByClass, along}
use Rattle.roundtrip.specs.Lemmas.BlockBack.{SceneFacts, scene-facts, coded_block, block_writes, block-means}

-- ---- which records are valid

-- each record is valid by the class of its object, the indices counting from i
abbrev pub ValidFrom : Shares → ℕ → ℕ → List Record → Type 0
ValidFrom s blocks i rs = ByClass record_valid s blocks i rs

pub none-bad : (s : Shares) (blocks i : ℕ) (rs : List Record) → first_bad s blocks i rs ≡ i + length rs → ValidFrom s blocks i rs
unfolding first_bad
none-bad s blocks i [] h = tt
none-bad s blocks i (r ∷ rs) h = by-test (record_valid (class_of s (i / blocks)) r)
    (λ q. let m : first_bad s blocks (suc i) rs ≡ i + suc (length rs) = rw q at h in (q, none-bad s blocks (suc i) rs (omega arith)))
    (λ q. let m : i ≡ i + suc (length rs) = rw q at h in absurd (omega arith))

-- the record is valid by a class
abbrev pub Good : ℕ → Record → Type 0
Good class r = record_valid class r ≡ true

module _ (s : Shares) (blocks : ℕ) where
  -- those of object j, from its block k on
  object-good : (j k n : ℕ) (rs : List Record) → ValidFrom s blocks (j * blocks + k) rs → k + n ≤ blocks → Every (Good (class_of s j)) (take n rs)
  object-good j k zero [] h l = tt
  object-good j k zero (r ∷ rs) h l = tt
  object-good j k (suc n) [] h l = tt
  object-good j k (suc n) (r ∷ rs) h l =
      let lt : k < blocks = omega arith in
      let e : suc (j * blocks + k) ≡ j * blocks + suc k = omega arith in
      (rw (digits_div j lt) at h.0, object-good j (suc k) n rs (rw e at h.1) (omega arith))

  behind : (i n : ℕ) (rs : List Record) → ValidFrom s blocks i rs → ValidFrom s blocks (i + n) (drop n rs)
  behind i zero [] h = tt
  behind i zero (r ∷ rs) h = let e : i + 0 ≡ i = omega arith in rw e h
  behind i (suc n) [] h = tt
  behind i (suc n) (r ∷ rs) h = let e : i + suc n ≡ suc i + n = omega arith in rw e (behind (suc i) n rs h.1)

-- ---- an object

-- what is read of an object
abbrev pub coded_object : List Record → List Block
coded_object o = map (λ r. coded_block r.scene) o

good-scene : (class : ℕ) (r : Record) → Good class r → SceneFacts class r.scene
unfolding record_valid
good-scene class r h = scene-facts class r.scene (halves (scene_valid class r.scene) _ h).0

object-writes : (class : ℕ) (o : List Record) → Every (Good class) o → Writes (object_data (length o) class) (object_data_bits o) (coded_object o)
unfolding object_data object_data_bits
object-writes class o h =
    w-each (object_info_block class) (λ blk r. block_bits (eqb blk 0) r.scene) (λ r. coded_block r.scene) (from 0 (length o)) 0 o
    (along (Good class) (λ x i r. Writes (object_info_block class x) (block_bits (eqb i 0) r.scene) (coded_block r.scene))
    (λ i r g.
    let f = good-scene class r g in
    subst (λ (c : ℕ). Writes (object_info_block c i) (block_bits (eqb i 0) r.scene) (coded_block r.scene)) f.kind
    (block_writes i class r.scene f))
    0 o h)

scenes_back : (class : ℕ) (before : Scene) (above : List Scene) (o : List Record) → Every (Good class) o
    → scenes_from before above (coded_object o) ≡ map (λ r. r.scene) o
unfolding scenes_from
scenes_back class before above [] h = refl
scenes_back class before above (r ∷ rs) h =
    let e = block-means before (first_gain above) class r.scene (good-scene class r h.0) in
    rw e (ap (λ (ss : List Scene). r.scene ∷ ss) (scenes_back class r.scene (behind_first above) rs h.1))

-- ---- all objects

-- the scenes of the first records and those of the others are the scenes of all
parted : (blocks : ℕ) (rs : List Record) {a b : List Scene} → a ≡ map (λ r. r.scene) (take blocks rs) → b ≡ map (λ r. r.scene) (drop blocks rs)
    → a ++ b ≡ map (λ r. r.scene) rs
parted blocks rs f g =
    ap₂ (λ (x y : List Scene). x ++ y) f g ∙ sym (map-append (λ r. r.scene) (take blocks rs) (drop blocks rs))
    ∙ ap (map (λ r. r.scene)) (take-append-drop blocks rs)

module _ (s : Shares) (blocks : ℕ) where
  pub objects-write : (j n : ℕ) (rs : List Record) → ValidFrom s blocks (j * blocks) rs → length rs ≡ n * blocks
      → Along (λ x i o. Writes (object_data blocks (class_of s x)) (object_data_bits o) (coded_object o)) (from j n) j (by_object blocks n rs)
  unfolding from by_object
  objects-write j zero rs h l = tt
  objects-write j (suc n) rs h l =
      let m : length rs ≡ n * blocks + blocks = l ∙ suc-mul n blocks in
      let first : ValidFrom s blocks (j * blocks + 0) rs = (let e : j * blocks + 0 ≡ j * blocks = omega arith in rw e h) in
      let rest : ValidFrom s blocks (suc j * blocks) (drop blocks rs) = rw (suc-mul j blocks) (behind s blocks (j * blocks) blocks rs h) in
      let long : length (take blocks rs) ≡ blocks = length-take-le blocks rs (omega arith) in
      let o : List Record = take blocks rs in (
        subst (λ (b : ℕ). Writes (object_data b (class_of s j)) (object_data_bits o) (coded_object o)) long
            (object-writes (class_of s j) o (object-good s blocks j 0 blocks rs first (omega arith))),
        objects-write (suc j) n (drop blocks rs) rest (length-drop blocks rs ∙ omega arith),
      )

  pub objects-mean : (j n : ℕ) (above : List Scene) (rs : List Record) → ValidFrom s blocks (j * blocks) rs → length rs ≡ n * blocks
      → all_scenes above (map coded_object (by_object blocks n rs)) ≡ map (λ r. r.scene) rs
  unfolding all_scenes scenes_of by_object
  objects-mean j zero above [] h l = refl
  objects-mean j zero above (r ∷ rs) h l = absurd (omega (arith, zero-mul blocks))
  objects-mean j (suc n) above rs h l =
      let m : length rs ≡ n * blocks + blocks = l ∙ suc-mul n blocks in
      let first : ValidFrom s blocks (j * blocks + 0) rs = (let e : j * blocks + 0 ≡ j * blocks = omega arith in rw e h) in
      let rest : ValidFrom s blocks (suc j * blocks) (drop blocks rs) = rw (suc-mul j blocks) (behind s blocks (j * blocks) blocks rs h) in
      let o : List Record = take blocks rs in
      let mine = scenes_back (class_of s j) nothing_before above o (object-good s blocks j 0 blocks rs first (omega arith)) in
      let others = objects-mean (suc j) n (scenes_of above (coded_object o)) (drop blocks rs) rest (length-drop blocks rs ∙ omega arith) in
      parted blocks rs mine others
