-- Slots of one size in a room: their product, without making it.
use mathlib.Core.Path.{◌≡◌, sym, ◌∙◌}
use mathlib.Core.Bool.{true}
use Prim.Native.Nat.{ℕ, zero, ◌*◌, ◌/◌, ◌<◌}
use native.Mathlib.Nat.{mul-zero, le-div_iff_mul-le, div-lt_iff_lt-mul}
use native.Mathlib.Omega.{arith}
use lib.Dec.{leb}
use borrow.Author.Tests.{le-leb, lt-leb}
use Rattle.bits.specs.Steps.{by_order}

pub no-slots : (n size room : ℕ) → size ≡ 0 → true ≡ leb (n * size) room
no-slots n size room e = rw (e, mul-zero) (sym (le-leb 0 room (omega arith)))

-- n slots fit exactly where n is no more than what the room holds of them
pub by-dividing : (n size room : ℕ) → (size ≡ 0 → ⊥) → leb n (room / size) ≡ leb (n * size) room
by-dividing n size room some =
    let above : zero < size = omega arith in
    by_order n (room / size)
    (λ few. le-leb n (room / size) few ∙ sym (le-leb (n * size) room ((le-div_iff_mul-le above).0 few)))
    (λ many. lt-leb n (room / size) many ∙ sym (lt-leb (n * size) room ((div-lt_iff_lt-mul above).0 many)))
