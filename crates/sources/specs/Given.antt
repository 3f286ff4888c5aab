-- What a source gives: the words of the theorems follows, ends, amounts and gives.
use Rattle.std.specs.Prelude.{◌≡◌, Bool, true, false, not, List, [], ◌∷◌, ℕ, ◌+◌, ◌-◌, ◌*◌, ◌<◌, eqb, ltb, get_or, take}
use Rattle.std.proofs.Math.Option.{Option, none, some}
use Rattle.bits.specs.Language.{pick, both, between}
use Rattle.oamd.specs.declared.Block.{Block}
use Rattle.oamd.specs.declared.Scene.{Scene}
use Rattle.oamd.specs.declared.Divergence.{Divergence}
use Rattle.oamd.specs.declared.Precise.{Precise}
use Rattle.oamd.specs.Tables.{distance_codes}
use Rattle.oamd.specs.Programme.{shares, class_of}
use Rattle.oamd.specs.Meaning.{zero_db, across, upright, height_of, moved_by, idle, resolve}
use Rattle.oamd.specs.Extended.{no_divergence, no_precise, Extension}
use Rattle.oamd.specs.Record.{scene_bytes, record_of, record_bytes_of}
use Rattle.oamd.specs.Payload.{Payload}
use Rattle.sources.specs.declared.Field.{Field}
use Rattle.sources.specs.declared.Field.TheVariants.{NotActive, GainIdx, GainBits, DefaultPriority, PriorityBits, DiffX, DiffY, DiffZ, PosX, PosY, PosZ}
use Rattle.sources.specs.declared.Field.TheVariants.{DistanceSpecified, AtInfinity, DistanceIdx, ZoneIdx, Elevation, SizeIdx, SizeBits, Width, Depth, Height}
use Rattle.sources.specs.declared.Field.TheVariants.{ScreenRef, ScreenFactor, DepthIdx, Snap, ObjectDivergence, DivMode, DivTable, DivCode, Presence}
use Rattle.sources.specs.declared.Field.TheVariants.{PreciseX, PreciseY, PreciseZ}
use Rattle.sources.specs.declared.Source.{Source}
use Rattle.sources.specs.declared.Source.TheVariants.{ByField, ByProgramme, ByBasicDefault, ByRenderDefault, ByNothing, ByBlock, ByMove, ByObject}
use Rattle.sources.specs.declared.WhyStep.{WhyStep}
use Rattle.sources.specs.declared.WhyAnswer.{WhyAnswer}
use Rattle.sources.specs.Coded.{coded_sign, coded_value}
use Rattle.sources.specs.Chain.{blocks_in, block_at, record_at, source_at, Step}
use Rattle.sources.specs.Explaining.{value_at}

-- bytes 4, 5 and 6 are x, y and z
abbrev pub is_coordinate : ℕ → Bool
is_coordinate byte = between 4 6 byte

-- the range of one of them
abbrev pub range_of : ℕ → ℕ → ℕ
range_of byte v = pick (eqb byte 6) (upright v) (across v)

-- a coordinate of the block before, moved by a difference, and held to its range
abbrev pub moved_in : ℕ → ℕ → ℕ → ℕ
moved_in byte before d = range_of byte (moved_by before d)

-- byte 2 is the gain, the one byte that an object can take from the object before
abbrev pub gain_byte : ℕ
gain_byte = 2

-- the first bytes of a record are those of its scene
abbrev pub scene_count : ℕ
scene_count = 17

abbrev pub scene_byte : ℕ → Scene → ℕ
scene_byte byte s = get_or (scene_bytes s) byte 0

-- what a block gives alone, with nothing before it and 0 dB above it
abbrev pub alone : Block → Scene
alone b = resolve (idle 0) zero_db b

-- A byte, now, follows from its source: it is that of the block before, as it is there or, a coordinate, moved within its range, or that of the object before, which is a gain; any other
-- source gives a byte that depends on neither, and is what stands alone. Behind and beside say that there is a block before, and an object before.
abbrev pub Follows : Type 0 → Type 0 → ℕ → ℕ → ℕ → ℕ → ℕ → Source → Type 0
Follows behind beside byte before above own now (ByField f) = now ≡ own
Follows behind beside byte before above own now ByProgramme = now ≡ own
Follows behind beside byte before above own now ByBasicDefault = now ≡ own
Follows behind beside byte before above own now ByRenderDefault = now ≡ own
Follows behind beside byte before above own now ByNothing = (now ≡ own) × (now ≡ 0)
Follows behind beside byte before above own now ByBlock = behind × (now ≡ before)
Follows behind beside byte before above own now (ByMove f d) = behind × (is_coordinate byte ≡ true) × (now ≡ moved_in byte before d)
Follows behind beside byte before above own now ByObject = beside × (byte ≡ gain_byte) × (now ≡ above)

-- ---- what stands for a block in the extended element

abbrev pub divergence_in : Option Extension → List Divergence
divergence_in none = []
divergence_in (some x) = x.divergence

abbrev pub precise_in : Option Extension → List Precise
precise_in none = []
precise_in (some x) = x.precise

-- its entries for block b of object j; nothing without such an element
unfoldable pub divergence_at : Payload → ℕ → ℕ → Divergence
divergence_at q j b = get_or (divergence_in q.known.extended) (j * blocks_in q + b) no_divergence

unfoldable pub precise_at : Payload → ℕ → ℕ → Precise
precise_at q j b = get_or (precise_in q.known.extended) (j * blocks_in q + b) no_precise

-- a byte by these entries and by the block alone
unfoldable pub own_at : Payload → ℕ → ℕ → ℕ → ℕ
own_at q byte j b = get_or (record_bytes_of (record_of (alone (block_at q j b)) (divergence_at q j b) (precise_at q j b))) byte 0

-- the byte of the record of block b of object j, of the payload s that was read as q, follows from its source
abbrev pub FollowsAt : List ℕ → Payload → ℕ → ℕ → ℕ → Type 0
FollowsAt s q byte j b =
    Follows (0 < b) (0 < j) byte (value_at q byte j (b - 1)) (value_at q byte (j - 1) b) (own_at q byte j b) (value_at q byte j b) (source_at s q byte j b)

-- ---- chains

-- a source behind which the chain goes on
abbrev pub is_link : Source → Bool
is_link (ByField f) = false
is_link ByProgramme = false
is_link ByBasicDefault = false
is_link ByRenderDefault = false
is_link ByNothing = false
is_link ByBlock = true
is_link (ByMove f d) = true
is_link ByObject = true

-- the last entry of a list; of none, a
abbrev pub last_of : {A : Type 0} → A → List A → A
last_of a [] = a
last_of a (x ∷ xs) = last_of x xs

-- what a source makes of the byte that it hands on
abbrev pub handed : ℕ → Source → ℕ → ℕ
handed byte (ByField f) v = v
handed byte ByProgramme v = v
handed byte ByBasicDefault v = v
handed byte ByRenderDefault v = v
handed byte ByNothing v = v
handed byte ByBlock v = v
handed byte (ByMove f d) v = moved_in byte v d
handed byte ByObject v = v

-- what the byte v, with which a chain ends, amounts to at its first step
abbrev pub amount : ℕ → List Step → ℕ → ℕ
amount byte [] v = v
amount byte (st ∷ steps) v = handed byte st.source (amount byte steps v)

-- the same of the steps of an answer, by their numbers: one from the block before (6) that names a field is moved by the difference in it
abbrev pub handed_told : ℕ → WhyStep → ℕ → ℕ
handed_told byte st v = pick (both (eqb st.source 6) (not (eqb st.field 0))) (moved_in byte v st.difference) v

abbrev pub amount_told : ℕ → List WhyStep → ℕ → ℕ
amount_told byte [] v = v
amount_told byte (st ∷ steps) v = handed_told byte st (amount_told byte steps v)

-- those that an answer counts
abbrev pub steps_in : WhyAnswer → List WhyStep
steps_in a = take a.count a.steps

-- ---- the end of a chain

-- the byte that a field gives, by its number v and, for z, the sign before it
abbrev pub field_gives : Field → ℕ → ℕ → ℕ
field_gives NotActive v sign = 1 - v
field_gives GainIdx v sign = pick (eqb v 1) 0 zero_db
field_gives GainBits v sign = pick (ltb v 15) (zero_db + 15 - v) (zero_db + 14 - v)
field_gives DefaultPriority v sign = 32
field_gives PriorityBits v sign = v
field_gives DiffX v sign = v
field_gives DiffY v sign = v
field_gives DiffZ v sign = v
field_gives PosX v sign = across v
field_gives PosY v sign = across v
field_gives PosZ v sign = upright (height_of sign v)
field_gives DistanceSpecified v sign = 0
field_gives AtInfinity v sign = 1
field_gives DistanceIdx v sign = get_or distance_codes v 0
field_gives ZoneIdx v sign = v
field_gives Elevation v sign = v
field_gives SizeIdx v sign = 0
field_gives SizeBits v sign = v
field_gives Width v sign = v
field_gives Depth v sign = v
field_gives Height v sign = v
field_gives ScreenRef v sign = v
field_gives ScreenFactor v sign = v
field_gives DepthIdx v sign = v
field_gives Snap v sign = v
field_gives ObjectDivergence v sign = v
field_gives DivMode v sign = v
field_gives DivTable v sign = v
field_gives DivCode v sign = v
field_gives Presence v sign = v
field_gives PreciseX v sign = v
field_gives PreciseY v sign = v
field_gives PreciseZ v sign = v

-- A byte, now, is what its source gives, where a chain ends: a field, by its number as coded; the programme, by which the object has its class; a default; nothing. Of a moved byte it
-- says that the difference is the field's number.
abbrev pub Gives : Block → Divergence → Precise → ℕ → ℕ → ℕ → Source → Type 0
Gives b d p class byte now (ByField f) = now ≡ field_gives f (coded_value f b d p) (coded_sign b.render.position)
Gives b d p class byte now ByProgramme = now ≡ class
Gives b d p class byte now ByBasicDefault = now ≡ scene_byte byte (idle 0)
Gives b d p class byte now ByRenderDefault = now ≡ scene_byte byte (idle 0)
Gives b d p class byte now ByNothing = now ≡ 0
Gives b d p class byte now ByBlock = Unit {0}
Gives b d p class byte now (ByMove f difference) = coded_value f b d p ≡ difference
Gives b d p class byte now ByObject = Unit {0}

-- of the record of block b of object j
abbrev pub GivesAt : List ℕ → Payload → ℕ → ℕ → ℕ → Type 0
GivesAt s q byte j b =
    Gives (block_at q j b) (record_at q j b).divergence (record_at q j b).precise (class_of (shares q.programme) j) byte (value_at q byte j b) (source_at s q byte j b)
