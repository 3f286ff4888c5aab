-- What a function promises that looks at coded fields and gives what they mean.
use Rattle.std.specs.Prelude.{Bool, ◌≡◌, true, ℕ, ◌≤◌}
use Rattle.bits.specs.declared.Sighted.{Sighted}
use Rattle.bits.specs.Language.{Bits}
use Rattle.bits.specs.View.{Sees, Freely}
use Rattle.meaning.specs.declared.Shown.{Shown}
use Rattle.meaning.specs.Shown.{shown_of}
use Rattle.oamd.specs.declared.Scene.{Scene}
use Rattle.oamd.specs.declared.Status.{Status}
use Rattle.oamd.specs.Block.{object_basic_info, object_render_info, object_info_block}
use Rattle.oamd.specs.Meaning.{resolve}
use Rattle.syntax.specs.declared.Checked.{Checked}
use Rattle.syntax.specs.Looks.{Seen, Passed}
use Rattle.scenes.specs.declared.Levels.{Levels}
use Rattle.scenes.specs.Resolved.{levels_of}

-- v is what f makes of a coded value of which Q holds
pub record Made {A B : Type 0} (f : A → B) (v : B) (Q : A → Type 0) : Type 0 where
  pub coded : A
  pub held : Q coded
  pub means : v ≡ f coded

-- object_basic_info of a status, o bits behind the first of the window x
abbrev pub LevelsFound : Status → Scene → ℕ → ℕ → ℕ → Sighted Levels → Type 0
LevelsFound status before gain_before x o r = Made (levels_of before gain_before) r.value (λ b. Seen (object_basic_info status) 16 x o b r.off)

-- x holds the 64 bits from base on, and object_render_info begins at bit o of them
pub record Opened (b : Bits) (x base o : ℕ) : Type 0 where
  pub near : o ≤ 28
  pub few : base ≤ 4000000000
  pub sees : Sees x b base

-- object_render_info of a status, from a position on
abbrev pub ShownFound : Status → Bool → Scene → Bits → ℕ → Checked Shown → Type 0
ShownFound status first before b at r = Made (shown_of before) r.value (λ n. Passed r.good (object_render_info status first) 56 b at n r.off)

-- a block from a position on, where no reserved code was met
abbrev pub SceneFound : ℕ → ℕ → Scene → ℕ → Bits → ℕ → Checked Scene → Type 0
SceneFound class blk before gain_before b at r =
    Made (resolve before gain_before) r.value (λ n. r.good ≡ true → Freely (object_info_block class blk) b at n r.off)
