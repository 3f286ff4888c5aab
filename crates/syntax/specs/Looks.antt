-- What a function promises that looks at a window: what it read of it, and that it came at most so many bits further.
use Rattle.std.specs.Prelude.{◌≡◌, Bool, true, false, ℕ, ◌+◌, ◌≤◌}
use Rattle.bits.specs.Language.{ok, Bits, P, run}
use Rattle.bits.specs.View.{Sees, Freely, Looks}

-- of no 64 bits that x holds the reader p reads a value, from o bits behind the first on
pub record Shut {A : Type 0} (p : P A) (x o : ℕ) : Type 0 where
  pub never : (b : Bits) (base e r : ℕ) {v : A} {to : ℕ} → Sees x b base → run p b (base + o) e r ≡ ok v to → ⊥

pub record Seen {A : Type 0} (p : P A) (n x o : ℕ) (v : A) (off : ℕ) : Type 0 where
  pub looks : Looks p x o v off
  pub near : off ≤ o + n

-- the same, unless a reserved code was met: then nothing is read there
pub record SeenIf {A : Type 0} (good : Bool) (p : P A) (n x o : ℕ) (v : A) (off : ℕ) : Type 0 where
  pub looks : good ≡ true → Looks p x o v off
  pub met : good ≡ false → Shut p x o
  pub near : off ≤ o + n

-- from one position to another, at most n bits further, unless a reserved code was met
pub record Passed {A : Type 0} (good : Bool) (p : P A) (n : ℕ) (b : Bits) (at : ℕ) (v : A) (to : ℕ) : Type 0 where
  pub freely : good ≡ true → Freely p b at v to
  pub near : to ≤ at + n

-- two fields, the second of which may hang on the first
pub record Pair (p : P ℕ) (k : ℕ → P ℕ) (n x o v w off : ℕ) : Type 0 where
  pub mid : ℕ
  pub first : Looks p x o v mid
  pub second : Looks (k v) x mid w off
  pub near : off ≤ o + n
