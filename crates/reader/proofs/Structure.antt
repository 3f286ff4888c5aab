-- Scenes put behind those that stand already are the scenes of oamd's meaning, object by object. Assumes nothing.
use mathlib.Core.Path.{◌≡◌, refl, sym, ap, ◌∙◌}
use mathlib.Core.List.{List, [], ◌∷◌, ◌++◌, append_assoc, append-nil}
use Prim.Native.Nat.{ℕ, zero, suc, ◌+◌, ◌-◌, ◌≤◌, ◌<◌}
use native.Mathlib.Omega.{arith}
use lib.ListN.{length, get_or, drop, length-append, get_or-append}
use lib.Seq.{get_or-append-add, drop-nil}
use borrow.Author.Tests.{le-leb, lt-leb}
use Rattle.oamd.specs.declared.Scene.{Scene}
use Rattle.oamd.specs.declared.Block.{Block}
use Rattle.oamd.specs.Meaning.{resolve, idle, first_gain, behind_first, nothing_before, scenes_from, scenes_of, all_scenes}
use Rattle.reader.specs.Running.{gain_of_object_before, with_blocks, with_objects}

-- behind the scenes ss, those of the object before are above
abbrev Above : ℕ → List Scene → List Scene → Type 0
Above k ss above = (mine : List Scene) → length mine < k → gain_of_object_before k (ss ++ mine) ≡ first_gain (drop (length mine) above)

behind-drop : (m : ℕ) (ss : List Scene) → behind_first (drop m ss) ≡ drop (suc m) ss
behind-drop zero [] = refl
behind-drop zero (s ∷ ss) = refl
behind-drop (suc m) [] = refl
behind-drop (suc m) (s ∷ ss) = behind-drop m ss

gain-at : (ss : List Scene) (m : ℕ) → m < length ss → first_gain (drop m ss) ≡ (get_or ss m (idle 0)).gain
gain-at [] m h = absurd (omega arith)
gain-at (s ∷ ss) zero h = refl
gain-at (s ∷ ss) (suc m) h = gain-at ss m (omega arith)

next_object : (k : ℕ) (prev last : List Scene) → length last ≡ k → Above k (prev ++ last) last
unfolding gain_of_object_before
next_object k prev last e mine h =
    let n = length-append (prev ++ last) mine in
    let m = length-append prev last in
    let i : length ((prev ++ last) ++ mine) - k ≡ length prev + length mine = omega arith in
    let enough = le-leb k (length ((prev ++ last) ++ mine)) (omega arith) in
    let before-mine = get_or-append (prev ++ last) mine (idle 0) (length prev + length mine) (omega arith) in
    rw (enough, i, before-mine, get_or-append-add prev last (length mine) (idle 0))
    (sym (gain-at last (length mine) (omega arith)))

one-object : (k : ℕ) (ss above : List Scene) → Above k ss above → (o : List Block) (mine : List Scene) (before : Scene) → length mine + length o ≤ k
    → with_blocks k (ss ++ mine) before o ≡ (ss ++ mine) ++ scenes_from before (drop (length mine) above) o
unfolding with_blocks scenes_from
one-object k ss above h [] mine before l = rw append-nil
one-object k ss above h (b ∷ bs) mine before l =
    let s : Scene = resolve before (first_gain (drop (length mine) above)) b in
    let n : length (mine ++ (s ∷ [])) ≡ suc (length mine) = length-append mine (s ∷ []) ∙ omega arith in
    let one_more = append_assoc ss mine (s ∷ []) in
    let others = one-object k ss above h bs (mine ++ (s ∷ [])) s (omega arith) in
    rw (h mine (omega arith), one_more, others, n, behind-drop (length mine) above, ← one_more, append_assoc (ss ++ mine) (s ∷ []) _)

-- every object has k blocks
abbrev pub Each : ℕ → List (List Block) → Type 0
Each k [] = Unit {0}
Each k (o ∷ os) = (length o ≡ k) × Each k os

pub length-scenes : (before : Scene) (above : List Scene) (o : List Block) → length (scenes_from before above o) ≡ length o
unfolding scenes_from
length-scenes before above [] = refl
length-scenes before above (b ∷ bs) = ap suc (length-scenes (resolve before (first_gain above) b) (behind_first above) bs)

same_from : (k : ℕ) (os : List (List Block)) (ss above : List Scene) → Each k os → Above k ss above → with_objects k ss os ≡ ss ++ all_scenes above os
unfolding with_objects all_scenes scenes_of
same_from k [] ss above e h = rw append-nil
same_from k (o ∷ os) ss above e h =
    let mine : List Scene = scenes_from nothing_before above o in
    let x : with_blocks k ss nothing_before o ≡ ss ++ mine = rw append-nil at (one-object k ss above h o [] nothing_before (omega arith)) in
    rw (x, same_from k os (ss ++ mine) mine e.1 (next_object k ss mine (length-scenes nothing_before above o ∙ e.0)), append_assoc)

pub same : (k : ℕ) (os : List (List Block)) → Each k os → with_objects k [] os ≡ all_scenes [] os
unfolding gain_of_object_before
same k os e = same_from k os [] [] e (λ mine h. rw (lt-leb k (length mine) h, drop-nil {A = Scene} (length mine)))
