-- What a call that lays a text answers, and what the lent buffer holds afterwards, for all buffers.
use Rattle.std.specs.Prelude.{List, ℕ, leb, length}
use Rattle.bits.specs.declared.Refusal.TheVariants.{ShortText}
use Rattle.bits.specs.Refusals.{number_of}
use Rattle.bits.specs.Language.{pick}
use Rattle.oamd.specs.Record.{onto}
use Rattle.text.specs.declared.TextAnswer.{TextAnswer}

-- the answer, and afterwards the buffer lent for the text
pub record Texted : Type 0 where
  pub answer : TextAnswer
  pub buffer : List ℕ

abbrev pub text_answer : ℕ → ℕ → ℕ → TextAnswer
text_answer refusal place bytes = record { place = place; length = record { 0 = bytes }; refusal = refusal }

-- a text that fits is the first bytes of the buffer, and the others stay; else the place is the bytes that it needs, and the buffer is as it came
unfoldable pub texted : List ℕ → List ℕ → Texted
texted text buffer =
    pick (leb (length text) (length buffer))
    (record { answer = text_answer 0 0 (length text); buffer = onto text buffer })
    (record { answer = text_answer (number_of ShortText) (length text) 0; buffer = buffer })
