-- Bytes as a number, the least first: what a function promises that puts n of them together.
use Rattle.std.specs.Prelude.{◌≡◌, List, ℕ, ◌^◌, ◌<◌}
use Rattle.bits.specs.Terms.{Every}
use Rattle.oamd.specs.LeastFirst.{least_at}
use Rattle.record.specs.Bytes.{bytes_at}

pub record Number (n : ℕ) (s : List ℕ) (at r : ℕ) : Type 0 where
  pub is : r ≡ least_at n s at
  pub below : r < 256 ^ n
  pub bytes : Every (λ b. b < 256) (bytes_at s n at)
