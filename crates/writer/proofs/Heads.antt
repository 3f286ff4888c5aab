-- What stands before the elements, and the timing, are their parts, one behind the other. Assumes nothing.
use mathlib.Core.Path.{◌≡◌}
use mathlib.Core.List.{◌++◌, append_assoc}
use Prim.Native.Nat.{ℕ, ◌-◌, ◌%◌}
use lib.ListN.{take}
use Rattle.bits.specs.Writes.{to_bits, each_bits}
use Rattle.oamd.specs.declared.Programme.{Programme}
use Rattle.oamd.specs.declared.Timing.{Timing}
use Rattle.coding.specs.Packing.{head_bits, tail_bits}
use Rattle.form.specs.Valid.{first_start, offset_in_samples}
use Rattle.form.specs.Coded.{coded_offset, coded_update}
use Rattle.form.specs.Form.{bed_bits, beds_bits, assignment_bits, header_bits, offset_bits, update_bits, timing_bits}

pub header-parts : (p : Programme) → head_bits p ++ (each_bits (λ i b. bed_bits b) 0 (take p.bedcount p.beds) ++ tail_bits p) ≡ header_bits p
unfolding header_bits assignment_bits beds_bits
header-parts p = simp append_assoc

pub timing-parts : (z : Timing) {first : ℕ} → first ≡ first_start z.updates % 32
    → (offset_bits (coded_offset first) ++ to_bits 3 (z.blocks - 1)) ++ each_bits (λ i u. update_bits (coded_update u)) 0 (take z.blocks z.updates) ≡ timing_bits z
unfolding timing_bits offset_in_samples
timing-parts z e = rw e (simp append_assoc)
