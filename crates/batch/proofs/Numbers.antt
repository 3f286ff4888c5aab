-- A number's bytes, least first, as the library gives them. Assumes nothing.
use mathlib.Core.Path.{◌≡◌, refl, sym, ap, ap₂, ◌∙◌}
use mathlib.Core.List.{List, ◌∷◌}
use Prim.Native.Nat.{ℕ, zero, suc, ◌/◌, ◌%◌, ◌^◌}
use Rattle.std.specs.Int.{byte_at, bytes_low_first}
use Rattle.std.proofs.Math.Nat.{div-one, div-div-eq-div-mul, pow-suc}
use Rattle.oamd.specs.LeastFirst.{least_first}

-- the bytes of a number, from byte i upward, are those of what is left of it there
from_byte : (k i n : ℕ) → bytes_low_first i k n ≡ least_first k (n / 256 ^ i)
unfolding least_first
from_byte zero i n = refl
from_byte (suc k) i n =
    let next : n / 256 ^ suc i ≡ n / 256 ^ i / 256 = ap (λ (p : ℕ). n / p) (pow-suc 256 i) ∙ sym (div-div-eq-div-mul n (256 ^ i) 256) in
    ap₂ (λ (x : ℕ) (xs : List ℕ). x ∷ xs) (here i) (from_byte k (suc i) n ∙ ap (least_first k) next)
  where
    here : (i : ℕ) → byte_at i n ≡ n / 256 ^ i % 256
    here zero = ap (λ (m : ℕ). m % 256) (sym (div-one n))
    here (suc i) = refl

pub low-first : (k n : ℕ) → bytes_low_first 0 k n ≡ least_first k n
low-first k n = from_byte k 0 n ∙ ap (least_first k) (div-one n)
