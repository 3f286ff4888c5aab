-- A block is its parts, one behind the other. Assumes nothing.
use mathlib.Core.Path.{◌≡◌}
use mathlib.Core.Bool.{Bool, true, false}
use mathlib.Core.List.{◌++◌, append_assoc}
use Rattle.bits.specs.Writes.{to_bits}
use Rattle.oamd.specs.declared.Scene.{Scene}
use Rattle.oamd.specs.Record.{carries}
use Rattle.form.specs.Form.{status_bits, render_bits, block_bits}
use Rattle.coding.specs.Packing.{opening_bits, fore_bits, aft_bits}

pub block-full : (first : Bool) (s : Scene) → true ≡ carries s → fore_bits first s ++ aft_bits s ≡ block_bits first s
unfolding block_bits render_bits status_bits opening_bits fore_bits aft_bits
block-full first s e = rw (← e) (simp append_assoc)

pub block-short : (first : Bool) (s : Scene) → false ≡ carries s → opening_bits first s ++ to_bits 1 0 ≡ block_bits first s
unfolding block_bits render_bits status_bits opening_bits
block-short first s e = rw (← e) (simp append_assoc)
