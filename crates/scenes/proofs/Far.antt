-- How far the looks of object_render_info come in their two windows. Assumes nothing.
use Prim.Native.Nat.{ℕ, ◌+◌, ◌-◌, ◌%◌, ◌≤◌}
use native.Mathlib.Omega.{arith}

-- from the second window's first bit on: zone, extent, screen and snap
pub more : (o : ℕ) {a b c d : ℕ} → a ≤ o + 4 → b ≤ a + 17 → c ≤ b + 6 → d ≤ c + 1 → d ≤ o + 28
more o p q r s = omega arith

-- both together, where the second window begins with the byte in which the first has ended
pub whole : (base d o : ℕ) {off : ℕ} → d ≤ o + 28 → off ≤ (base + d) % 8 + 28 → (base + d) - (base + d) % 8 + off ≤ base + o + 56
whole base d o h k = omega arith
