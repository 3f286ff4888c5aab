-- Which scene of a payload is that of a block of an object, and what it is made of.
use Rattle.std.specs.Prelude.{◌≡◌, refl, true, ℕ, zero, suc, ◌+◌, ◌*◌, ◌<◌, eqb}
use Rattle.std.proofs.Common.{sym, ◌∙◌, arith, zero-mul, suc-mul, eqb-true, length-append, get_or-append-add}
use Rattle.std.proofs.Math.Path.{ap, ap₂}
use mathlib.Core.List.{List, [], ◌∷◌}
use Rattle.std.proofs.Math.ListN.{length, get_or, get_or-append}
use Rattle.bits.specs.Terms.{Every}
use Rattle.oamd.specs.declared.Block.{Block}
use Rattle.oamd.specs.declared.Scene.{Scene}
use Rattle.oamd.specs.Meaning.{zero_db, resolve, first_gain, behind_first, nothing_before, scenes_from, scenes_of, all_scenes}

-- ---- the scenes of one object

-- those of object i of os, where above are those of the object before os
unfoldable pub scenes_at : List Scene → List (List Block) → ℕ → List Scene
scenes_at above [] i = []
scenes_at above (o ∷ os) zero = scenes_of above o
scenes_at above (o ∷ os) (suc i) = scenes_at (scenes_of above o) os i

length-scenes : (before : Scene) (above : List Scene) (o : List Block) → length (scenes_from before above o) ≡ length o
unfolding scenes_from
length-scenes before above [] = refl
length-scenes before above (b ∷ bs) = ap suc (length-scenes (resolve before (first_gain above) b) (behind_first above) bs)

-- as many scenes as objects and blocks
pub length_all : (n : ℕ) (above : List Scene) (os : List (List Block)) → Every (λ o. length o ≡ n) os → length (all_scenes above os) ≡ length os * n
unfolding all_scenes scenes_of
length_all n above [] h = sym (zero-mul n)
length_all n above (o ∷ os) h =
    let mine = length-scenes nothing_before above o in
    let rest = length_all n (scenes_of above o) os h.1 in
    let both = length-append (scenes_of above o) (all_scenes (scenes_of above o) os) in
    omega (arith, suc-mul (length os) n, h.0)

-- where each object has n blocks, block b of object i has entry i n + b of the scenes
pub scene-at : (n : ℕ) (above : List Scene) (os : List (List Block)) → Every (λ o. length o ≡ n) os → (i b : ℕ) → i < length os → b < n → (none : Scene)
    → get_or (all_scenes above os) (i * n + b) none ≡ get_or (scenes_at above os i) b none
unfolding all_scenes scenes_at scenes_of
scene-at n above [] h i b l m none = absurd (omega arith)
scene-at n above (o ∷ os) h zero b l m none =
    let e : 0 * n + b ≡ b = omega (arith, zero-mul n) in
    rw e (get_or-append (scenes_of above o) _ none b (omega (arith, length-scenes nothing_before above o, h.0)))
scene-at n above (o ∷ os) h (suc i) b l m none =
    let long = length-scenes nothing_before above o in
    let e : suc i * n + b ≡ length (scenes_of above o) + (i * n + b) = omega (arith, suc-mul i n, h.0) in
    rw e (get_or-append-add (scenes_of above o) _ (i * n + b) none ∙ scene-at n (scenes_of above o) os h.1 i b (omega arith) m none)

-- ---- what a scene is made of

-- of the scene of each block of each object: that of the block before, and the gain of the object before in the same block; 0 dB before the first object
abbrev pub block_before : (ℕ → ℕ → Scene) → ℕ → ℕ → Scene
block_before scene j zero = nothing_before
block_before scene j (suc b) = scene j b

abbrev pub gain_before : (ℕ → ℕ → Scene) → ℕ → ℕ → ℕ
gain_before scene zero b = zero_db
gain_before scene (suc j) b = (scene j b).gain

pub none_above : (scene : ℕ → ℕ → Scene) (j b : ℕ) → eqb j 0 ≡ true → gain_before scene j b ≡ zero_db
none_above scene zero b e = refl
none_above scene (suc j) b e = let z = eqb-true (suc j) 0 e in absurd (omega arith)

-- the gain of entry b of the object before
abbrev gain_at : List Scene → ℕ → ℕ
gain_at [] b = zero_db
gain_at (s ∷ ss) zero = s.gain
gain_at (s ∷ ss) (suc b) = gain_at ss b

gain_first : (above : List Scene) → first_gain above ≡ gain_at above 0
gain_first [] = refl
gain_first (s ∷ ss) = refl

gain-behind : (above : List Scene) (b : ℕ) → gain_at (behind_first above) b ≡ gain_at above (suc b)
gain-behind [] b = refl
gain-behind (s ∷ ss) b = refl

gain_there : (above : List Scene) (b : ℕ) (none : Scene) → b < length above → gain_at above b ≡ (get_or above b none).gain
gain_there [] b none l = absurd (omega arith)
gain_there (s ∷ ss) zero none l = refl
gain_there (s ∷ ss) (suc b) none l = gain_there ss b none (omega arith)

-- the scene before entry b of ss
abbrev past : Scene → List Scene → Scene → ℕ → Scene
past before ss none zero = before
past before ss none (suc b) = get_or ss b none

past_next : (before s : Scene) (ss : List Scene) (none : Scene) (b : ℕ) → past s ss none b ≡ past before (s ∷ ss) none (suc b)
past_next before s ss none zero = refl
past_next before s ss none (suc b) = refl

scene-of : (before : Scene) (above : List Scene) (o : List Block) (b : ℕ) → b < length o → (none : Scene) (blank : Block)
    → get_or (scenes_from before above o) b none ≡ resolve (past before (scenes_from before above o) none b) (gain_at above b) (get_or o b blank)
unfolding scenes_from
scene-of before above [] b l none blank = absurd (omega arith)
scene-of before above (x ∷ xs) zero l none blank = rw (gain_first above)
scene-of before above (x ∷ xs) (suc b) l none blank =
    let s = resolve before (first_gain above) x in
    scene-of s (behind_first above) xs b (omega arith) none blank
    ∙ ap₂ (λ (p : Scene) (g : ℕ). resolve p g (get_or xs b blank)) (past_next before s _ none b) (gain-behind above b)

scenes_next : (above : List Scene) (os : List (List Block)) (i : ℕ) → suc i < length os
    → scenes_at above os (suc i) ≡ scenes_of (scenes_at above os i) (get_or os (suc i) [])
unfolding scenes_at
scenes_next above [] i l = absurd (omega arith)
scenes_next above (o ∷ []) zero l = absurd (omega arith)
scenes_next above (o ∷ p ∷ os) zero l = refl
scenes_next above (o ∷ os) (suc i) l = scenes_next (scenes_of above o) os i (omega arith)

every_at : {A : Type 0} (Q : A → Type 0) (xs : List A) → Every Q xs → (i : ℕ) → i < length xs → (none : A) → Q (get_or xs i none)
every_at Q [] h i l none = absurd (omega arith)
every_at Q (x ∷ xs) h zero l none = h.0
every_at Q (x ∷ xs) h (suc i) l none = every_at Q xs h.1 i (omega arith) none

length_at : (n : ℕ) (above : List Scene) (os : List (List Block)) → Every (λ o. length o ≡ n) os → (i : ℕ) → i < length os → length (scenes_at above os i) ≡ n
unfolding scenes_at scenes_of
length_at n above [] h i l = absurd (omega arith)
length_at n above (o ∷ os) h zero l = length-scenes nothing_before above o ∙ h.0
length_at n above (o ∷ os) h (suc i) l = length_at n (scenes_of above o) os h.1 i (omega arith)

-- the scenes of the object before object j
abbrev scenes_above : List (List Block) → ℕ → List Scene
scenes_above os zero = []
scenes_above os (suc j) = scenes_at [] os j

scenes-of : (os : List (List Block)) (j : ℕ) → j < length os → scenes_at [] os j ≡ scenes_of (scenes_above os j) (get_or os j [])
unfolding scenes_at
scenes-of [] j l = absurd (omega arith)
scenes-of (o ∷ os) zero l = refl
scenes-of (o ∷ os) (suc j) l = scenes_next [] (o ∷ os) j l

-- each scene is its block, resolved by that of the block before and by the gain of the object before
module _ (n : ℕ) (os : List (List Block)) (h : Every (λ o. length o ≡ n) os) (none : Scene) where
  abbrev scene : ℕ → ℕ → Scene
  scene j b = get_or (all_scenes [] os) (j * n + b) none

  before_is : (j b : ℕ) → j < length os → b < n → past nothing_before (scenes_at [] os j) none b ≡ block_before scene j b
  before_is j zero l m = refl
  before_is j (suc b) l m = sym (scene-at n [] os h j b l (omega arith) none)

  gain_is : (j b : ℕ) → j < length os → b < n → gain_at (scenes_above os j) b ≡ gain_before scene j b
  gain_is zero b l m = refl
  gain_is (suc j) b l m =
      gain_there (scenes_at [] os j) b none (omega (arith, length_at n [] os h j (omega arith)))
      ∙ ap (λ (s : Scene). s.gain) (sym (scene-at n [] os h j b (omega arith) m none))

  pub made_of : (j b : ℕ) → j < length os → b < n → (blank : Block) → scene j b ≡ resolve (block_before scene j b) (gain_before scene j b) (get_or (get_or os j []) b blank)
  unfolding scenes_of
  made_of j b l m blank =
      let long = every_at (λ o. length o ≡ n) os h j l [] in
      scene-at n [] os h j b l m none ∙ ap (λ (ss : List Scene). get_or ss b none) (scenes-of os j l)
      ∙ scene-of nothing_before (scenes_above os j) (get_or os j []) b (omega arith) none blank
      ∙ ap₂ (λ (p : Scene) (g : ℕ). resolve p g (get_or (get_or os j []) b blank))
      (ap (λ (ss : List Scene). past nothing_before ss none b) (sym (scenes-of os j l)) ∙ before_is j b l m) (gain_is j b l m)
