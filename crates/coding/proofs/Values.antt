-- Where the code computes a value first: what is packed with it is what the definition says. Assumes nothing.
use mathlib.Core.Path.{◌≡◌}
use mathlib.Core.Bool.{not}
use mathlib.Core.List.{◌++◌}
use Prim.Native.Nat.{ℕ, ◌-◌, ◌/◌, ◌%◌}
use lib.Dec.{leb, ltb, eqb}
use Rattle.bits.specs.Language.{pick, both}
use Rattle.bits.specs.Writes.{only, to_bits}
use Rattle.oamd.specs.declared.Update.{Update}
use Rattle.form.specs.Coded.{ramp_code, coded_update}
use Rattle.form.specs.Form.{count_bits, update_bits, group_bits, size_bits}
use Rattle.coding.specs.Packing.{ramp_bits}

pub count_is : (c : ℕ) {low more : ℕ} → low ≡ pick (ltb c 31) c 31 → more ≡ c - 31 → to_bits 5 low ++ only (not (ltb c 31)) (to_bits 7 more) ≡ count_bits c
unfolding count_bits
count_is c e f = rw (e, f)

pub update_is : (z : Update) {start ramp code indexed index bits : ℕ} → start ≡ z.start.0 → ramp ≡ z.ramp.0
    → code ≡ ramp_code ramp → indexed ≡ pick (ltb ramp 2048) 0 1 → index ≡ pick (ltb ramp 2048) 0 15 → bits ≡ pick (both (eqb code 3) (ltb ramp 2048)) ramp 0
    → to_bits 6 (start / 32) ++ ramp_bits code indexed index bits ≡ update_bits (coded_update z)
unfolding update_bits coded_update
update_is z e f g h i j = rw (j, i, h, g, f, e)

pub size_is : (y : ℕ) {a b c : ℕ} → a ≡ y / 16 - 1 → b ≡ a / 16 - 1 → c ≡ b / 16 - 1
    → only (leb 4368 y) (group_bits c 1) ++ (only (leb 272 y) (group_bits (b % 16) 1) ++ (only (leb 16 y) (group_bits (a % 16) 1) ++ group_bits (y % 16) 0)) ≡ size_bits y
unfolding size_bits
size_is y e f g = rw (g, f, e)
