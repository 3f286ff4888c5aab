-- When a text is refused: exactly when the lent buffer is shorter than it. So no listing is, where the buffer has room for the longest.
use Rattle.std.specs.Prelude.{◌≡◌, List, ◌↔◌, ℕ, ◌^◌, ◌≤◌, ◌<◌, length}
use Rattle.std.proofs.Common.{arith, le-leb}
use Rattle.std.proofs.lemmas.Bool.{lt-leb}
use Rattle.bits.specs.Steps.{by_order}
use Rattle.text.specs.Listing.{listing}
use Rattle.bits.specs.declared.Refusal.TheVariants.{ShortText}
use Rattle.bits.specs.Refusals.{number_of}
use Rattle.text.specs.Answer.{texted}
use Rattle.text.specs.Most.{most_text, most-text}

-- 18: the lent buffer is shorter than the text
pub short_when : (text buffer : List ℕ) → ((texted text buffer).answer.refusal ≡ number_of ShortText) ↔ (length buffer < length text)
unfolding texted
short_when text buffer = (
  (λ e. by_order (length text) (length buffer)
      (λ l. let z : ◌≡◌ {A = ℕ} 0 18 = rw (le-leb (length text) (length buffer) l) at e in absurd (omega arith))
      (λ l. l)),
  (λ l. rw (lt-leb (length text) (length buffer) l)),
)

-- a buffer of 100,000 bytes is never refused
pub never-short : (s buffer : List ℕ) → length s < 2 ^ 64 → most_text ≤ length buffer → (texted (listing s) buffer).answer.refusal ≡ 0
unfolding texted
never-short s buffer h l = let n = most-text s h in rw (le-leb (length (listing s)) (length buffer) (omega arith))
