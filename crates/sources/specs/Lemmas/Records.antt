-- The record of a block of an accepted payload: what its scene is made of, and what the extended element adds.
use Rattle.std.specs.Prelude.{◌≡◌, Bool, true, false, length}
use Rattle.std.proofs.Math.Path.{refl, sym, ap, ap₂}
use Rattle.std.proofs.Common.{◌∙◌, arith, suc-mul, mul-le-mul}
use Rattle.std.proofs.lemmas.Bool.{false≢true}
use mathlib.Core.List.{List, [], ◌∷◌, ◌++◌}
use Rattle.std.proofs.Math.Option.{Option, none, some}
use Prim.Native.Nat.{ℕ, zero, suc, ◌+◌, ◌*◌, ◌≤◌, ◌<◌}
use Rattle.std.proofs.Math.ListN.{get_or}
use Rattle.bits.specs.Language.{ok, both, bit}
use Rattle.oamd.specs.declared.Scene.{Scene}
use Rattle.oamd.specs.declared.Divergence.{Divergence}
use Rattle.oamd.specs.declared.Precise.{Precise}
use Rattle.oamd.specs.ObjectElement.{ObjectElement}
use Rattle.oamd.specs.Extended.{obj_div_block, ext_prec_pos_block, no_divergence, no_precise, Extension}
use Rattle.oamd.specs.Meaning.{idle, resolve, all_scenes}
use Rattle.oamd.specs.Record.{Record, record_of, carries, all_carry, plain_records, extended_records}
use Rattle.oamd.specs.Programme.{set?}
use Rattle.oamd.specs.Element.{there, scenes}
use Rattle.oamd.specs.Payload.{Payload, records, tables}
use Rattle.demands.specs.Terms.{parsed}
use Rattle.sources.specs.Chain.{objects_in, blocks_in, no_block, coded_in, block_at, no_record, record_at, may_carry, divergence_sent, presence_sent}
use Rattle.sources.specs.SceneAt.{block_before, gain_before, length_all, made_of}
use Rattle.sources.specs.Places.{entry}
use Rattle.sources.specs.Where.{path_of, bit_of, extended_path, divergence_present, precise_present, precise_flag}
use Rattle.sources.specs.Given.{divergence_in, precise_in, divergence_at, precise_at}
use Rattle.sources.specs.Sources.{div_block, prec_block}
use Rattle.sources.specs.Lemmas.Meeting.{Met}
use Rattle.sources.specs.Lemmas.Elements.{extended-met}
use Rattle.sources.specs.Lemmas.Blocks.{objects_long, blocks_long}
use Rattle.sources.specs.Lemmas.Extras.{Quiet, all_quiet, entry-sent, lines, lines_long, quiet_of}

-- ---- entry k of what is made scene by scene

plain_at : (ss : List Scene) (k : ℕ) → get_or (plain_records ss) k no_record ≡ record_of (get_or ss k (idle 0)) no_divergence no_precise
unfolding plain_records
plain_at [] k = refl
plain_at (s ∷ ss) zero = refl
plain_at (s ∷ ss) (suc k) = plain_at ss k

extended_at : (ss : List Scene) (ds : List Divergence) (ps : List Precise) (k : ℕ) → length ds ≡ length ss → length ps ≡ length ss
    → get_or (extended_records ss ds ps) k no_record ≡ record_of (get_or ss k (idle 0)) (get_or ds k no_divergence) (get_or ps k no_precise)
unfolding extended_records
extended_at [] [] [] k l m = refl
extended_at [] [] (p ∷ ps) k l m = absurd (omega arith)
extended_at [] (d ∷ ds) ps k l m = absurd (omega arith)
extended_at (s ∷ ss) [] ps k l m = absurd (omega arith)
extended_at (s ∷ ss) (d ∷ ds) [] k l m = absurd (omega arith)
extended_at (s ∷ ss) (d ∷ ds) (p ∷ ps) zero l m = refl
extended_at (s ∷ ss) (d ∷ ds) (p ∷ ps) (suc k) l m = extended_at ss ds ps k (omega arith) (omega arith)

pub carry_at : (ss : List Scene) (k : ℕ) → carries (get_or ss k (idle 0)) ≡ get_or (all_carry ss) k false
carry_at [] k = refl
carry_at (s ∷ ss) zero = refl
carry_at (s ∷ ss) (suc k) = carry_at ss k

pub length-carry : (ss : List Scene) → length (all_carry ss) ≡ length ss
length-carry [] = refl
length-carry (s ∷ ss) = ap suc (length-carry ss)

pub scenes-coded : (o : Option ObjectElement) → scenes o ≡ all_scenes [] (coded_in o)
unfolding scenes all_scenes
scenes-coded none = refl
scenes-coded (some e) = refl

-- ---- what stands before

before_same : (f g : ℕ → ℕ → Scene) → ((j b : ℕ) → f j b ≡ g j b) → (j b : ℕ) → block_before f j b ≡ block_before g j b
before_same f g h j zero = refl
before_same f g h j (suc b) = h j b

gain_same : (f g : ℕ → ℕ → Scene) → ((j b : ℕ) → f j b ≡ g j b) → (j b : ℕ) → gain_before f j b ≡ gain_before g j b
gain_same f g h zero b = refl
gain_same f g h (suc j) b = ap (λ (s : Scene). s.gain) (h j b)

pub among : (m n j b : ℕ) → j < m → b < n → j * n + b < m * n
among m n j b l k =
    let x : suc j * n ≤ m * n = mul-le-mul (let z : suc j ≤ m = omega arith in z) (let z : n ≤ n = omega arith in z) in
    omega (arith, suc-mul j n)

module _ (s : List ℕ) {q : Payload} {to : ℕ} (h : parsed s ≡ ok q to) where
  -- the scene of block b of object j
  abbrev scene : ℕ → ℕ → Scene
  scene j b = get_or (scenes q.known.object) (j * blocks_in q + b) (idle 0)

  pub record-at : (j b : ℕ) → record_at q j b ≡ record_of (scene j b) (divergence_at q j b) (precise_at q j b)
  unfolding record_at tables records divergence_at precise_at
  record-at j b = go q.known.extended refl
    where
      go : (x : Option Extension) → q.known.extended ≡ x → get_or (records (scenes q.known.object) x) (j * blocks_in q + b) no_record
          ≡ record_of (scene j b) (get_or (divergence_in x) (j * blocks_in q + b) no_divergence) (get_or (precise_in x) (j * blocks_in q + b) no_precise)
      go none is = plain_at (scenes q.known.object) _
      go (some x) is =
          let t = lines_long _ x (lines _ x (extended-met s h x is)) in
          let n = length-carry (scenes q.known.object) in
          extended_at (scenes q.known.object) x.divergence x.precise _ (t.0 ∙ n) (t.1 ∙ n)

  -- it is made of its block, of the scene of the block before and of the gain of the object before
  pub resolved_at : (j b : ℕ) → j < objects_in q → b < blocks_in q
      → (record_at q j b).scene ≡ resolve (block_before (λ j b. (record_at q j b).scene) j b) (gain_before (λ j b. (record_at q j b).scene) j b) (block_at q j b)
  unfolding block_at
  resolved_at j b l m =
      let os = coded_in q.known.object in
      let long = objects_long s h b m in
      let known : (j b : ℕ) → get_or (all_scenes [] os) (j * blocks_in q + b) (idle 0) ≡ (record_at q j b).scene =
      λ j b. ap (λ (ss : List Scene). get_or ss (j * blocks_in q + b) (idle 0)) (sym (scenes-coded q.known.object)) ∙ ap (λ (r : Record). r.scene) (sym (record-at j b)) in
      sym (known j b) ∙ made_of (blocks_in q) os (blocks_long s h b m) (idle 0) j b (omega arith) m no_block
      ∙ ap₂ (λ (p : Scene) (g : ℕ). resolve p g (block_at q j b)) (before_same _ _ known j b) (gain_same _ _ known j b)

  -- ---- what the extended element has for it

  -- the entry of this index
  fits : (j b : ℕ) → j < objects_in q → b < blocks_in q → j * blocks_in q + b < length (all_carry (scenes q.known.object))
  fits j b l m =
      let many = length_all (blocks_in q) [] (coded_in q.known.object) (blocks_long s h b m) in
      let objects = objects_long s h b m in
      rw (length-carry, scenes-coded, many, objects) (among (objects_in q) (blocks_in q) j b l m)

  carry_here : (j b : ℕ) → carries (record_at q j b).scene ≡ get_or (all_carry (scenes q.known.object)) (j * blocks_in q + b) false
  carry_here j b = ap (λ (r : Record). carries r.scene) (record-at j b) ∙ carry_at (scenes q.known.object) (j * blocks_in q + b)

  -- what comes from nothing is 0
  pub quiet_at : (j b : ℕ) → j < objects_in q → b < blocks_in q → Quiet (divergence_sent s q j b) (presence_sent s q j b) (divergence_at q j b) (precise_at q j b)
  unfolding divergence_sent presence_sent divergence_at precise_at path_of
  quiet_at j b l m = go q.known.extended refl
    where
      k : ℕ
      k = j * blocks_in q + b

      flag : List ℕ → Bool
      flag path = set? (bit s (bit_of s (extended_path s ++ path)))

      go : (x : Option Extension) → q.known.extended ≡ x
          → let c = both (there x) (carries (record_at q j b).scene) in
          Quiet (both c (flag divergence_present)) (both (both c (flag precise_present)) (flag (3 ∷ (entry k ++ precise_flag)))) (get_or (divergence_in x) k no_divergence)
          (get_or (precise_in x) k no_precise)
      go none is = all_quiet _ _
      go (some x) is = quiet_of _ x (lines _ x (extended-met s h x is)) k (fits j b l m) _ (carry_here j b)

  -- where the block can carry something, and a flag is set
  record Carries (j b : ℕ) (flag : Bool) : Type 0 where
    extension : Extension
    is : q.known.extended ≡ some extension
    carry : get_or (all_carry (scenes q.known.object)) (j * blocks_in q + b) false ≡ true
    set : flag ≡ true

  carrying : (j b : ℕ) (flag : Bool) → both (may_carry q j b) flag ≡ true → Carries j b flag
  carrying j b flag h = go q.known.extended refl (carries (record_at q j b).scene) (carry_here j b) flag refl h
    where
      go : (x : Option Extension) → q.known.extended ≡ x → (c : Bool) → c ≡ get_or (all_carry (scenes q.known.object)) (j * blocks_in q + b) false → (t : Bool) → flag ≡ t
          → both (both (there x) c) t ≡ true → Carries j b flag
      go none is c carry t set h = absurd (false≢true h)
      go (some x) is false carry t set h = absurd (false≢true h)
      go (some x) is true carry t set h = record { extension = x; is = is; carry = sym carry; set = set ∙ h }

  -- obj_div_block and ext_prec_pos_block of block b of object j, where their paths lead, if their loops are sent and the block carries something
  pub divergence-met : (j b : ℕ) → j < objects_in q → b < blocks_in q → divergence_sent s q j b ≡ true
      → Met s (path_of s (blocks_in q) j b div_block) (obj_div_block true) (divergence_at q j b)
  unfolding divergence_sent divergence_at path_of tables
  divergence-met j b l m sent =
      let y = carrying j b _ sent in
      let t = lines _ y.extension (extended-met s h y.extension y.is) in
      let here = entry-sent _ obj_div_block no_divergence _ t.here (ap set? (sym t.is) ∙ y.set) (j * blocks_in q + b) (fits j b l m) in
      rw y.is (rw y.carry at here)

  pub precise-met : (j b : ℕ) → j < objects_in q → b < blocks_in q → both (may_carry q j b) (set? (bit s (bit_of s (extended_path s ++ precise_present)))) ≡ true
      → Met s (path_of s (blocks_in q) j b prec_block) (ext_prec_pos_block true) (precise_at q j b)
  unfolding precise_at path_of tables
  precise-met j b l m sent =
      let y = carrying j b _ sent in
      let t = lines _ y.extension (extended-met s h y.extension y.is) in
      let here = entry-sent _ ext_prec_pos_block no_precise _ t.here' (ap set? (sym t.is') ∙ y.set) (j * blocks_in q + b) (fits j b l m) in
      rw y.is (rw y.carry at here)
