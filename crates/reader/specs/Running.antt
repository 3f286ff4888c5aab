-- The meaning of blocks and objects as the code finds it: scenes are put behind those that stand already. proofs/Structure.antt shows that this is
-- the meaning of oamd.
use Rattle.std.specs.Prelude.{List, [], ◌∷◌, ◌++◌, ℕ, ◌-◌, leb, length, get_or}
use Rattle.bits.specs.Language.{pick}
use Rattle.oamd.specs.declared.Scene.{Scene}
use Rattle.oamd.specs.declared.Block.{Block}
use Rattle.oamd.specs.Meaning.{resolve, idle, nothing_before, zero_db}

-- the gain of the object before in the same block, k scenes back; 0 dB for the first object
unfoldable pub gain_of_object_before : ℕ → List Scene → ℕ
gain_of_object_before k ss = pick (leb k (length ss)) (get_or ss (length ss - k) (idle 0)).gain zero_db

-- the scenes so far, with those of the blocks of one object
unfoldable pub with_blocks : ℕ → List Scene → Scene → List Block → List Scene
with_blocks k ss block_before [] = ss
with_blocks k ss block_before (b ∷ bs) = let s = resolve block_before (gain_of_object_before k ss) b in with_blocks k (ss ++ (s ∷ [])) s bs

-- the scenes so far, with those of the objects
unfoldable pub with_objects : ℕ → List Scene → List (List Block) → List Scene
with_objects k ss [] = ss
with_objects k ss (o ∷ os) = with_objects k (with_blocks k ss nothing_before o) os
