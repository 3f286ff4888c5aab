-- A block, read and resolved at once, and the parts of `resolve` (oamd/specs/Meaning.antt) that go by a status.
use Rattle.std.specs.Prelude.{ℕ}
use Rattle.bits.specs.Language.{P, give, ◌>>=◌}
use Rattle.meaning.specs.declared.Shown.{Shown}
use Rattle.oamd.specs.declared.Basic.{Basic}
use Rattle.oamd.specs.declared.Scene.{Scene}
use Rattle.oamd.specs.Block.{has_gain, has_priority, object_info_block}
use Rattle.oamd.specs.Meaning.{value_of, gain_of, priority_of, resolve}
use Rattle.scenes.specs.declared.Levels.{Levels}

abbrev pub resolved_block : ℕ → ℕ → Scene → ℕ → P Scene
resolved_block class blk block_before gain_before = object_info_block class blk >>= λ b. give (resolve block_before gain_before b)

-- what object_basic_info gives
abbrev pub levels_of : Scene → ℕ → Basic → Levels
levels_of block_before gain_before b = record {
  gain = value_of b.status (has_gain b.parts) 0 block_before.gain (gain_of b.gain gain_before);
  priority = value_of b.status (has_priority b.parts) 0 block_before.priority (priority_of b.priority);
}

-- an active object of a class, by what both give
abbrev pub active_scene : ℕ → Levels → Shown → Scene
active_scene class levels shown = record {
  active = 1;
  class = class;
  gain = levels.gain;
  priority = levels.priority;
  location = shown.location;
  volume = shown.volume;
  zone = shown.zone;
  screen = shown.screen;
  snap = shown.snap;
}
