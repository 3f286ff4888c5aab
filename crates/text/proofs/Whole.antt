-- The whole listing: what is laid of a payload, and what is answered of a text. Assumes nothing.
use mathlib.Core.Path.{◌≡◌, refl, sym, ap, ap₂, ◌∙◌, subst}
use mathlib.Core.List.{List, ◌++◌}
use Prim.Native.Nat.{ℕ, ◌+◌, ◌^◌, ◌≤◌, ◌<◌}
use native.Mathlib.Omega.{arith}
use native.Mathlib.Nat.{mul-le-mul}
use borrow.Author.Tests.{le-leb, lt-leb}
use lib.ListN.{length, drop, replicate}
use lib.Seq.{sets-eq}
use Rattle.oamd.specs.declared.ReadAnswer.{ReadAnswer}
use Rattle.oamd.specs.Tables.{room_bytes, most_trim}
use Rattle.oamd.specs.Record.{onto}
use Rattle.oamd.specs.Answer.{Outcome, reading}
use Rattle.text.specs.declared.TextAnswer.{TextAnswer}
use Rattle.text.specs.Listing.{listing_of, zeros, read, listing}
use Rattle.bits.specs.declared.Refusal.TheVariants.{ShortText}
use Rattle.bits.specs.Refusals.{number_of}
use Rattle.text.specs.Answer.{text_answer, Texted, texted}
use Rattle.text.specs.Ranges.{Small, accepted-small}
use Rattle.text.specs.Most.{most_text, zeros_long, most-text}
use Rattle.text.specs.Laying.{capped, Laid, Holds}

abbrev pub gives : TextAnswer → List ℕ → Texted
gives a buffer = record { answer = a; buffer = buffer }

-- ---- a text, by the room

module _ (l buffer : List ℕ) (few : length l ≤ most_text) (needed : ℕ) (long : needed ≡ capped (0 + length l)) where
  long_is : needed ≡ length l
  long_is = omega arith

  pub no_room : length buffer < needed → gives (text_answer (number_of ShortText) needed 0) buffer ≡ texted l buffer
  unfolding texted
  no_room h =
      let e = long_is in
      ap (λ (n : ℕ). gives (text_answer (number_of ShortText) n 0) buffer) e ∙ sym (rw (lt-leb (length l) (length buffer) (omega arith)) refl)

  pub fits : (u : List ℕ) (r : ℕ) → needed ≤ length buffer → Laid buffer u 0 r l → gives (text_answer 0 0 needed) u ≡ texted l buffer
  unfolding texted onto
  fits u r h laid =
      let e = long_is in
      let z : 0 + length l ≡ length l = omega arith in
      let is : u ≡ l ++ drop (length l) buffer = laid.same ∙ sets-eq l buffer 0 (omega arith) ∙ rw z in
      ap₂ (λ (n : ℕ) (x : List ℕ). gives (text_answer 0 0 n) x) e is ∙ sym (rw (le-leb (length l) (length buffer) (omega arith)) refl)

-- ---- a payload that was read

-- the room that it is read with
pub zeros-are : (n : ℕ) → (◌≡◌ {A = List ℕ} (replicate n 0) (zeros n)) × (length {A = ℕ} (replicate n 0) ≡ n)
unfolding zeros
zeros-are n = (refl, zeros_long n)

module _ (s records trim : List ℕ) (a : ReadAnswer) (b t : List ℕ) (e : records ≡ zeros room_bytes) (f : trim ≡ zeros most_trim)
    (h : ◌≡◌ {A = Outcome} (record { answer = a; buffer = b; trim = t }) (reading 0 s records trim)) where
  read_is : ◌≡◌ {A = Outcome} (record { answer = a; buffer = b; trim = t }) (read s)
  read_is = h ∙ ap₂ (λ (x y : List ℕ). reading 0 s x y) e f

  pub listed : listing_of a b ≡ listing s
  unfolding listing
  listed = ap (λ (o : Outcome). listing_of o.answer o.buffer) read_is

  pub listed-few : length s < 2 ^ 64 → length (listing_of a b) ≤ most_text
  listed-few short = rw listed (most-text s short)

  pub listed-holds : length b ≡ room_bytes → a.refusal ≡ 0 → Holds a b
  listed-holds room zero =
      let same : a ≡ (read s).answer = ap (λ (o : Outcome). o.answer) read_is in
      let small : Small a = subst Small (sym same) (accepted-small 0 s (zeros room_bytes) (zeros most_trim) (sym (ap (λ (x : ReadAnswer). x.refusal) same) ∙ zero)) in
      record { blocks = small.blocks; bytes = omega (arith, mul-le-mul small.objects small.blocks) }
