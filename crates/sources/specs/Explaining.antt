-- Why a byte of a record is what it is: the answer, for all bytes, objects, blocks and bytes of a record.
use Rattle.std.specs.Prelude.{List, [], map, ℕ, leb, length, get_or}
use Rattle.bits.specs.declared.Refusal.TheVariants.{TooLong, NoSuch}
use Rattle.bits.specs.Refusals.{number_of}
use Rattle.bits.specs.Language.{Res, ok, no, pick}
use Rattle.oamd.specs.Tables.{most_bytes, record_bytes}
use Rattle.oamd.specs.Programme.{filled}
use Rattle.oamd.specs.Record.{record_bytes_of}
use Rattle.oamd.specs.Payload.{Payload}
use Rattle.oamd.specs.Answer.{missing_of}
use Rattle.demands.specs.Terms.{parsed}
use Rattle.sources.specs.declared.Source.{Source}
use Rattle.sources.specs.declared.Source.TheVariants.{ByField, ByProgramme, ByBasicDefault, ByRenderDefault, ByNothing, ByBlock, ByMove, ByObject}
use Rattle.sources.specs.declared.WhyStep.{WhyStep}
use Rattle.sources.specs.declared.WhyAnswer.{WhyAnswer}
use Rattle.sources.specs.Sources.{field_number, source_number}
use Rattle.sources.specs.Where.{field_bit}
use Rattle.sources.specs.Chain.{objects_in, blocks_in, record_at, source_at, Step, steps_from}

-- the steps of an answer, at the most
abbrev pub most_steps : ℕ
most_steps = 166

-- ---- a step

-- the first bit of the field that a source names, in the payload s of n blocks, for block b of object j
abbrev pub source_bit : List ℕ → ℕ → ℕ → ℕ → Source → ℕ
source_bit s n j b (ByField f) = field_bit s n j b f
source_bit s n j b ByProgramme = 0
source_bit s n j b ByBasicDefault = 0
source_bit s n j b ByRenderDefault = 0
source_bit s n j b ByNothing = 0
source_bit s n j b ByBlock = 0
source_bit s n j b (ByMove f d) = field_bit s n j b f
source_bit s n j b ByObject = 0

-- that field's number
abbrev pub source_field : Source → ℕ
source_field (ByField f) = field_number f
source_field ByProgramme = 0
source_field ByBasicDefault = 0
source_field ByRenderDefault = 0
source_field ByNothing = 0
source_field ByBlock = 0
source_field (ByMove f d) = field_number f
source_field ByObject = 0

-- the difference, as carried
abbrev pub source_difference : Source → ℕ
source_difference (ByField f) = 0
source_difference ByProgramme = 0
source_difference ByBasicDefault = 0
source_difference ByRenderDefault = 0
source_difference ByNothing = 0
source_difference ByBlock = 0
source_difference (ByMove f d) = d
source_difference ByObject = 0

-- a byte of the record of block b of object j
unfoldable pub value_at : Payload → ℕ → ℕ → ℕ → ℕ
value_at q byte j b = get_or (record_bytes_of (record_at q j b)) byte 0

unfoldable pub told : List ℕ → Payload → ℕ → Step → WhyStep
told s q byte st = record {
  bit = source_bit s (blocks_in q) st.object st.block st.source;
  object = st.object;
  block = st.block;
  value = value_at q byte st.object st.block;
  source = source_number st.source;
  field = source_field st.source;
  difference = source_difference st.source;
}

-- an entry that is not used
abbrev pub no_step : WhyStep
no_step = record { bit = 0; object = 0; block = 0; value = 0; source = 0; field = 0; difference = 0 }

-- ---- the answer

abbrev pub answer_of : ℕ → ℕ → ℕ → List WhyStep → WhyAnswer
answer_of number place missing steps =
    record { place = place; missing = missing; refusal = number; count = length steps; steps = filled most_steps no_step steps }

-- a refusal has no step
abbrev pub unexplained : ℕ → ℕ → ℕ → WhyAnswer
unexplained number place missing = answer_of number place missing []

abbrev pub explained : List WhyStep → WhyAnswer
explained steps = answer_of 0 0 0 steps

unfoldable pub steps_told : List ℕ → Payload → ℕ → ℕ → ℕ → List WhyStep
steps_told s q object block byte = map (told s q byte) (steps_from (source_at s q byte) object block)

-- the first that there is not: the object, the block or the byte
abbrev pub asked : List ℕ → Payload → ℕ → ℕ → ℕ → WhyAnswer
asked s q object block byte =
    pick (leb (objects_in q) object) (unexplained (number_of NoSuch) 1 0)
    (pick (leb (blocks_in q) block) (unexplained (number_of NoSuch) 2 0)
    (pick (leb record_bytes byte) (unexplained (number_of NoSuch) 3 0)
    (explained (steps_told s q object block byte))))

abbrev pub explained_if : List ℕ → ℕ → ℕ → ℕ → Res Payload → WhyAnswer
explained_if s object block byte (ok q to) = asked s q object block byte
explained_if s object block byte (no number place missing) = unexplained number place (missing_of number missing)

-- the refusals of reading come first, in their order
unfoldable pub explaining : List ℕ → ℕ → ℕ → ℕ → WhyAnswer
explaining s object block byte =
    pick (leb (length s) most_bytes) (explained_if s object block byte (parsed s)) (unexplained (number_of TooLong) (length s) 0)
