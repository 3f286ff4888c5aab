-- An element's frame, read and closed again. Assumes nothing.
use mathlib.Core.Path.{◌≡◌}
use Prim.Native.Nat.{ℕ, ◌+◌, ◌*◌}
use Rattle.bits.specs.declared.Cur.{Cur}
use Rattle.bits.specs.declared.Limit.{Limit}
use Rattle.bits.specs.declared.Size.{Size}
use Rattle.bits.specs.Language.{Bits, bits, bits_if}
use Rattle.bits.specs.Size.{variable_bits_max}
use Rattle.bits.specs.View.{Reads, Gave, valued, open_at, inner_of, close_at}
use Rattle.bits.proofs.Sticky.{bind, plain, emptied, framing}
use Rattle.oamd.specs.declared.Kind.{Kind}
use Rattle.oamd.specs.Programme.{set?}
use Rattle.oamd.specs.Element.{kind, size_length, framed, frame}

pub framed-gave : (alternate : ℕ) {b : Bits} {c c₁ c₂ o c₃ c₄ d d' : Cur} {l i : Limit} {id other flag n : ℕ} {z : Size} {k : Kind}
    → Reads (bits 4) b c l id c₁ → Reads variable_bits_max b c₁ l z c₂ → n ≡ z.value + 1 → o ≡ open_at l c₂ (8 * n) (size_length z) → i ≡ inner_of l c₂ (8 * n)
    → Reads (bits_if (set? alternate) 4) b o i other c₃ → Reads (bits 1) b c₃ i flag c₄ → k ≡ kind id other → d ≡ close_at c₄ i → d' ≡ valued d 0
    → Gave (frame alternate) b c l (record { kind = k; size = z }) d'
unfolding framed
framed-gave alternate r₁ r₂ hn ho hi r₃ r₄ hk hd he =
    emptied he (bind r₁ (bind r₂ (framing _ _ _ _ _ _ _ _ _ _ _ _ (rw hn at ho) (rw hn at hi) (bind r₃ (bind r₄ (rw hk plain))) hd)))
