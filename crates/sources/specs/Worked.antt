-- Payloads worked by hand, the first bits of fields in them, and answers, shown by computation. Every field is among them, so a line that is put into a clause of oamd/specs, and moves
-- the lines behind it, is seen here.
use Rattle.std.specs.Prelude.{◌≡◌, refl, List, [], ◌∷◌, ◌++◌, map, ℕ, get_or, replicate}
use Rattle.bits.specs.Language.{slice, number, run, bit, each, from}
use Rattle.bits.specs.Size.{size_from}
use Rattle.oamd.specs.Programme.{bed_assignment, bed_instances, intermediate_spatial_format, num_dynamic_objects, reserved_data, program_assignment, labels, bed_objects}
use Rattle.oamd.specs.Programme.{all_beds, named, agrees, shares, class_of}
use Rattle.oamd.specs.Timing.{sample_offset, block_update_info, md_update_info, offset_of, ramp_of, start_of, timing_of}
use Rattle.oamd.specs.Block.{status_idx, object_basic_info, differences, coordinates, position, distance, zone, extent, screen, object_render_info, additional_table_data, object_info_block}
use Rattle.oamd.specs.ObjectElement.{object_data, object_element}
use Rattle.oamd.specs.Extended.{obj_div_block, ext_prec_pos_block, extended_object_element}
use Rattle.oamd.specs.Meaning.{gain_of, priority_of, distance_of, location_of, volume_of, resolve, scenes_from, scenes_of, all_scenes}
use Rattle.oamd.specs.Record.{plain_records, extended_records, record_bytes_of}
use Rattle.oamd.specs.Trim.{trim_config, trim_element, trim_of}
use Rattle.oamd.specs.Element.{kind, framed, scenes, fields, pass_over, read_known, oa_element, oa_element_md, elements}
use Rattle.oamd.specs.Payload.{oa_md_version, object_count, oa_element_count, header, object_audio_metadata_payload, timing, records, tables}
use Rattle.oamd.specs.Answer.{missing_of}
use Rattle.sources.specs.declared.Field.{Field}
use Rattle.sources.specs.declared.Field.TheVariants.{NotActive, GainIdx, GainBits, DefaultPriority, PriorityBits, DiffX, DiffY, DiffZ, PosX, PosY, PosZ}
use Rattle.sources.specs.declared.Field.TheVariants.{DistanceSpecified, AtInfinity, DistanceIdx, ZoneIdx, Elevation, SizeIdx, SizeBits, Width, Depth, Height}
use Rattle.sources.specs.declared.Field.TheVariants.{ScreenRef, ScreenFactor, DepthIdx, Snap, ObjectDivergence, DivMode, DivTable, DivCode, Presence}
use Rattle.sources.specs.declared.Field.TheVariants.{PreciseX, PreciseY, PreciseZ}
use Rattle.sources.specs.declared.WhyStep.{WhyStep}
use Rattle.sources.specs.declared.WhyAnswer.{WhyAnswer}
use Rattle.sources.specs.Places.{arrival}
use Rattle.sources.specs.Sources.{prec_block, width_of, gain_source, priority_source, x_source, y_source, z_source, distance_source, size_source, screen_source, scene_sources}
use Rattle.sources.specs.Sources.{divergence_sources, precise_sources}
use Rattle.sources.specs.Where.{kinds, payload_kinds, kinds_in, index_of, path_of, extended_path, divergence_present, precise_present, precise_flag, bit_of, field_bit}
use Rattle.sources.specs.Chain.{block_at, record_at, divergence_sent, presence_sent, sources_at, source_at, chain}
use Rattle.sources.specs.Explaining.{value_at, told, no_step, unexplained, explained, steps_told, explaining}

-- the first bit of a field, and its number there, in a payload of so many blocks, for an object and a block
pub data Bit : Type 0 where
  field_at : List ℕ → ℕ → ℕ → ℕ → Field → ℕ → ℕ → Bit

abbrev pub computed_bit : Bit → ℕ × ℕ
computed_bit (field_at s n j b f at v) = (field_bit s n j b f, number (slice (bit s) (field_bit s n j b f) (width_of f)))

abbrev pub worked_bit : Bit → ℕ × ℕ
worked_bit (field_at s n j b f at v) = (at, v)

-- the answer for an object, a block and a byte
pub data Question : Type 0 where
  why_is : List ℕ → ℕ → ℕ → ℕ → WhyAnswer → Question

abbrev pub computed_answer : Question → WhyAnswer
computed_answer (why_is s j b byte a) = explaining s j b byte

abbrev pub worked_answer : Question → WhyAnswer
worked_answer (why_is s j b byte a) = a

-- for an object and a block, the source of each byte of the record, and the field in it, by their numbers
pub data Row : Type 0 where
  row_is : List ℕ → ℕ → ℕ → List ℕ → List ℕ → Row

abbrev pub first_of : WhyAnswer → WhyStep
first_of a = get_or a.steps 0 no_step

abbrev pub computed_row : Row → List ℕ
computed_row (row_is s j b sources fields) =
    map (λ (byte : ℕ). (first_of (explaining s j b byte)).source) (from 0 24) ++ map (λ (byte : ℕ). (first_of (explaining s j b byte)).field) (from 0 24)

abbrev pub worked_row : Row → List ℕ
worked_row (row_is s j b sources fields) = sources ++ fields

-- object, block and value, the number of the source, that of the field, its bit, and the difference
abbrev pub step : ℕ → ℕ → ℕ → ℕ → ℕ → ℕ → ℕ → WhyStep
step j b value source field at difference =
    record { bit = at; object = j; block = b; value = value; source = source; field = field; difference = difference }

-- two dynamic objects, two blocks, an object element and an extended element with divergence
abbrev pub two : List ℕ
two = 0x03 ∷ 0x08 ∷ 0x42 ∷ 0x00 ∷ 0x40 ∷ 0x01 ∷ 0x29 ∷ 0x48 ∷ 0x2a ∷ 0x54 ∷ 0x20 ∷ 0x58 ∷ 0xea ∷ 0x81 ∷ 0x8f ∷ 0xf8 ∷ 0x0f ∷ 0x08 ∷ 0x1c ∷ 0x4c ∷ 0x05 ∷ 0x22 ∷ 0xd0 ∷ 0xd0 ∷ 0x00 ∷ []

-- two dynamic objects, one block; an unknown element stands first; the extended element has precise positions only
abbrev pub three : List ℕ
three = 0x03 ∷ 0x0e ∷ 0x40 ∷ 0x00 ∷ 0x3c ∷ 0x00 ∷ 0x02 ∷ 0x20 ∷ 0x85 ∷ 0x39 ∷ 0x12 ∷ 0x08 ∷ 0x87 ∷ 0xb4 ∷ 0x43 ∷ 0x10 ∷ 0x53 ∷ 0x62 ∷ 0xa4 ∷ 0x00 ∷ 0x51 ∷ 0x16 ∷ 0xb8 ∷ 0x00 ∷ []

-- a bed object and a dynamic one, four blocks; alternate ids; a trim element stands first; the extended element has both
abbrev pub four : List ℕ
four =
    0x03 ∷ 0xcc ∷ 0x84 ∷ 0x20 ∷ 0x00 ∷ 0x21 ∷ 0xa0 ∷ 0x06 ∷ 0x00 ∷ 0x08 ∷ 0x10 ∷ 0x19 ∷ 0x70 ∷ 0x4e ∷ 0x44 ∷ 0xff ∷ 0x95 ∷ 0x53 ∷ 0x27 ∷ 0x47 ∷ 0x27 ∷ 0x1b ∷ 0x9e ∷ 0x54
    ∷ 0x3f ∷ 0xd3 ∷ 0xe9 ∷ 0xe3 ∷ 0x04 ∷ 0x43 ∷ 0xda ∷ 0x6c ∷ 0xa0 ∷ 0x02 ∷ 0xa9 ∷ 0xd9 ∷ 0x56 ∷ 0x87 ∷ 0x5c ∷ 0x3d ∷ 0xb0 ∷ []

-- one dynamic object, four blocks, each mixed one with another part; no extended element, and behind the last element ones
abbrev pub five : List ℕ
five = 0x01 ∷ 0x04 ∷ 0x42 ∷ 0x00 ∷ 0xc0 ∷ 0x01 ∷ 0x02 ∷ 0x03 ∷ 0x26 ∷ 0x08 ∷ 0x43 ∷ 0x08 ∷ 0x16 ∷ 0x49 ∷ 0x33 ∷ 0x44 ∷ 0x61 ∷ 0x01 ∷ 0xe2 ∷ 0x5b ∷ 0xff ∷ 0xff ∷ []

-- one dynamic object, one block; an extended element of two clear flags, and ones behind them
abbrev pub six : List ℕ
six = 0x01 ∷ 0x08 ∷ 0x54 ∷ 0x00 ∷ 0x04 ∷ 0xc1 ∷ 0x08 ∷ 0x61 ∷ 0x06 ∷ 0xa0 ∷ 0x1f ∷ []

-- an object element of one byte
abbrev pub one_byte : List ℕ
one_byte = 0x01 ∷ 0x04 ∷ 0x40 ∷ 0x00 ∷ []

-- one object and no element; and that, cut
abbrev pub no_objects : List ℕ
no_objects = 0x01 ∷ 0x07 ∷ 0xC1 ∷ 0x00 ∷ []

abbrev pub shortened : List ℕ
shortened = 0x01 ∷ 0x07 ∷ 0xC1 ∷ []

abbrev pub field_bits : List Bit
field_bits =
    field_at two 2 0 0 NotActive 51 0
    ∷ field_at two 2 1 1 PriorityBits 152 9
    ∷ field_at two 2 0 1 DiffX 98 5
    ∷ field_at two 2 0 1 DiffY 101 2
    ∷ field_at two 2 0 1 DiffZ 104 4
    ∷ field_at two 2 0 0 GainBits 54 20
    ∷ field_at two 2 1 0 PosZ 132 15
    ∷ field_at two 2 0 1 Snap 108 0
    ∷ field_at two 2 0 0 ObjectDivergence 175 0
    ∷ field_at two 2 0 1 DivMode 177 2
    ∷ field_at two 2 0 1 DivCode 179 33
    ∷ field_at two 2 1 1 ObjectDivergence 188 0
    ∷ field_at two 2 0 0 Elevation 82 1
    ∷ field_at three 1 0 0 DistanceIdx 78 4
    ∷ field_at three 1 0 0 ZoneIdx 82 2
    ∷ field_at three 1 0 0 Elevation 85 0
    ∷ field_at three 1 0 0 SizeIdx 86 2
    ∷ field_at three 1 0 0 Width 88 1
    ∷ field_at three 1 0 0 Depth 93 2
    ∷ field_at three 1 0 0 Height 98 3
    ∷ field_at three 1 0 0 ScreenRef 103 1
    ∷ field_at three 1 0 0 ScreenFactor 104 5
    ∷ field_at three 1 0 0 DepthIdx 107 2
    ∷ field_at three 1 0 0 Snap 109 1
    ∷ field_at three 1 1 0 GainIdx 112 1
    ∷ field_at three 1 1 0 DefaultPriority 114 0
    ∷ field_at three 1 1 0 PriorityBits 115 3
    ∷ field_at three 1 1 0 PosX 120 4
    ∷ field_at three 1 1 0 PosY 126 5
    ∷ field_at three 1 1 0 PosZ 133 6
    ∷ field_at three 1 1 0 DistanceSpecified 137 1
    ∷ field_at three 1 1 0 AtInfinity 138 1
    ∷ field_at three 1 1 0 SizeBits 145 9
    ∷ field_at three 1 1 0 Presence 174 5
    ∷ field_at three 1 1 0 PreciseX 177 1
    ∷ field_at three 1 1 0 PreciseZ 179 3
    ∷ field_at four 4 0 0 NotActive 96 0
    ∷ field_at four 4 0 0 GainIdx 97 3
    ∷ field_at four 4 0 0 DefaultPriority 99 1
    ∷ field_at four 4 0 1 NotActive 101 0
    ∷ field_at four 4 0 2 NotActive 105 1
    ∷ field_at four 4 0 3 NotActive 107 0
    ∷ field_at four 4 0 3 DefaultPriority 112 0
    ∷ field_at four 4 0 3 PriorityBits 113 17
    ∷ field_at four 4 1 0 NotActive 119 0
    ∷ field_at four 4 1 0 GainIdx 120 3
    ∷ field_at four 4 1 0 DefaultPriority 122 1
    ∷ field_at four 4 1 0 PosX 123 63
    ∷ field_at four 4 1 0 PosY 129 10
    ∷ field_at four 4 1 0 PosZ 136 5
    ∷ field_at four 4 1 0 DistanceSpecified 140 0
    ∷ field_at four 4 1 0 ZoneIdx 141 3
    ∷ field_at four 4 1 0 Elevation 144 0
    ∷ field_at four 4 1 0 SizeIdx 145 1
    ∷ field_at four 4 1 0 SizeBits 147 7
    ∷ field_at four 4 1 0 ScreenRef 152 0
    ∷ field_at four 4 1 0 Snap 153 1
    ∷ field_at four 4 1 1 NotActive 155 0
    ∷ field_at four 4 1 1 GainIdx 158 3
    ∷ field_at four 4 1 1 DefaultPriority 160 0
    ∷ field_at four 4 1 1 PriorityBits 161 9
    ∷ field_at four 4 1 1 DiffX 173 3
    ∷ field_at four 4 1 1 DiffY 176 4
    ∷ field_at four 4 1 1 DiffZ 179 7
    ∷ field_at four 4 1 1 DistanceSpecified 182 1
    ∷ field_at four 4 1 1 AtInfinity 183 0
    ∷ field_at four 4 1 1 DistanceIdx 184 5
    ∷ field_at four 4 1 1 Snap 188 0
    ∷ field_at four 4 1 2 NotActive 202 0
    ∷ field_at four 4 1 2 DiffX 208 7
    ∷ field_at four 4 1 2 DiffY 211 2
    ∷ field_at four 4 1 2 DiffZ 214 3
    ∷ field_at four 4 1 2 AtInfinity 218 1
    ∷ field_at four 4 1 2 ZoneIdx 219 0
    ∷ field_at four 4 1 2 Elevation 222 1
    ∷ field_at four 4 1 2 SizeIdx 223 2
    ∷ field_at four 4 1 2 Width 225 1
    ∷ field_at four 4 1 2 Depth 230 2
    ∷ field_at four 4 1 2 Height 235 3
    ∷ field_at four 4 1 2 ScreenRef 240 1
    ∷ field_at four 4 1 2 ScreenFactor 241 5
    ∷ field_at four 4 1 2 DepthIdx 244 2
    ∷ field_at four 4 1 2 Snap 246 1
    ∷ field_at four 4 1 3 NotActive 248 0
    ∷ field_at four 4 1 3 GainIdx 253 2
    ∷ field_at four 4 1 3 GainBits 255 20
    ∷ field_at four 4 1 0 ObjectDivergence 284 1
    ∷ field_at four 4 1 0 DivMode 285 0
    ∷ field_at four 4 1 0 DivTable 287 2
    ∷ field_at four 4 1 1 ObjectDivergence 289 1
    ∷ field_at four 4 1 1 DivMode 290 1
    ∷ field_at four 4 1 2 ObjectDivergence 292 0
    ∷ field_at four 4 1 3 ObjectDivergence 293 1
    ∷ field_at four 4 1 3 DivMode 294 2
    ∷ field_at four 4 1 3 DivCode 296 33
    ∷ field_at four 4 1 0 Presence 304 2
    ∷ field_at four 4 1 0 PreciseY 307 3
    ∷ field_at four 4 1 1 Presence 310 0
    ∷ field_at four 4 1 3 Presence 315 7
    ∷ field_at four 4 1 3 PreciseX 318 1
    ∷ field_at four 4 1 3 PreciseY 320 2
    ∷ field_at four 4 1 3 PreciseZ 322 3
    ∷ []

-- three flags that are no field of a record
abbrev pub flags : List ℕ
flags = bit_of three (extended_path three ++ divergence_present) ∷ bit_of three (extended_path three ++ precise_present) ∷ bit_of three (path_of three 1 0 0 prec_block precise_flag) ∷ []

abbrev pub questions : List Question
questions =
    why_is two 1 1 2 (explained (step 1 1 44 6 0 0 0 ∷ step 1 0 44 7 0 0 0 ∷ step 0 0 44 1 3 54 0 ∷ []))
    ∷ why_is two 0 1 4 (explained (step 0 1 0 6 6 98 5 ∷ step 0 0 1 1 9 61 0 ∷ []))
    ∷ why_is two 0 1 6 (explained (step 0 1 65 6 8 104 4 ∷ step 0 0 69 1 11 74 0 ∷ []))
    ∷ why_is two 1 0 4 (explained (step 1 0 62 1 9 119 0 ∷ []))
    ∷ why_is two 0 1 11 (explained (step 0 1 0 6 0 0 0 ∷ step 0 0 0 1 15 79 0 ∷ []))
    ∷ why_is two 0 1 16 (explained (step 0 1 0 1 25 108 0 ∷ []))
    ∷ why_is two 0 0 1 (explained (step 0 0 2 2 0 0 0 ∷ []))
    ∷ why_is two 0 0 17 (explained (step 0 0 0 1 26 175 0 ∷ []))
    ∷ why_is two 0 0 18 (explained (step 0 0 0 5 0 0 0 ∷ []))
    ∷ why_is two 0 1 19 (explained (step 0 1 33 1 29 179 0 ∷ []))
    ∷ why_is two 1 0 19 (explained (step 1 0 0 5 0 0 0 ∷ []))
    ∷ why_is two 2 0 0 (unexplained 14 1 0)
    ∷ why_is two 0 2 24 (unexplained 14 2 0)
    ∷ why_is two 0 0 24 (unexplained 14 3 0)
    ∷ why_is two 2 2 24 (unexplained 14 1 0)
    ∷ why_is no_objects 0 0 0 (unexplained 14 2 0)
    ∷ why_is no_objects 1 0 0 (unexplained 14 1 0)
    ∷ why_is shortened 0 0 0 (unexplained 2 18 7)
    ∷ why_is shortened 200 9 24 (unexplained 2 18 7)
    ∷ why_is one_byte 1 0 0 (unexplained 8 29 0)
    ∷ why_is (replicate 4097 0) 200 0 0 (unexplained 1 4097 0)
    ∷ why_is three 0 0 7 (explained (step 0 0 6 1 14 78 0 ∷ []))
    ∷ why_is three 1 0 7 (explained (step 1 0 1 1 13 138 0 ∷ []))
    ∷ why_is three 1 0 9 (explained (step 1 0 9 1 18 145 0 ∷ []))
    ∷ why_is three 0 0 14 (explained (step 0 0 5 1 23 104 0 ∷ []))
    ∷ why_is three 1 0 14 (explained (step 1 0 0 1 22 150 0 ∷ []))
    ∷ why_is three 1 0 20 (explained (step 1 0 5 1 30 174 0 ∷ []))
    ∷ why_is three 1 0 22 (explained (step 1 0 0 5 0 0 0 ∷ []))
    ∷ why_is three 0 0 20 (explained (step 0 0 0 5 0 0 0 ∷ []))
    ∷ why_is three 0 0 17 (explained (step 0 0 0 5 0 0 0 ∷ []))
    ∷ why_is four 0 2 0 (explained (step 0 2 0 1 1 105 0 ∷ []))
    ∷ why_is four 0 0 1 (explained (step 0 0 0 2 0 0 0 ∷ []))
    ∷ why_is four 0 0 2 (explained (step 0 0 50 1 2 97 0 ∷ []))
    ∷ why_is four 1 0 2 (explained (step 1 0 50 7 0 0 0 ∷ step 0 0 50 1 2 97 0 ∷ []))
    ∷ why_is four 1 2 2 (explained (step 1 2 0 6 0 0 0 ∷ step 1 1 0 7 0 0 0 ∷ step 0 1 0 3 0 0 0 ∷ []))
    ∷ why_is four 0 3 2 (explained (step 0 3 0 6 0 0 0 ∷ step 0 2 0 3 0 0 0 ∷ []))
    ∷ why_is four 1 3 2 (explained (step 1 3 44 1 3 255 0 ∷ []))
    ∷ why_is four 1 3 3 (explained (step 1 3 9 6 0 0 0 ∷ step 1 2 9 6 0 0 0 ∷ step 1 1 9 1 5 161 0 ∷ []))
    ∷ why_is four 0 0 3 (explained (step 0 0 32 1 4 99 0 ∷ []))
    ∷ why_is four 0 0 4 (explained (step 0 0 31 4 0 0 0 ∷ []))
    ∷ why_is four 1 3 4 (explained (step 1 3 31 4 0 0 0 ∷ []))
    ∷ why_is four 1 2 4 (explained (step 1 2 61 6 6 208 7 ∷ step 1 1 62 6 6 173 3 ∷ step 1 0 62 1 9 123 0 ∷ []))
    ∷ why_is four 1 2 5 (explained (step 1 2 8 6 7 211 2 ∷ step 1 1 6 6 7 176 4 ∷ step 1 0 10 1 10 129 0 ∷ []))
    ∷ why_is four 1 2 6 (explained (step 1 2 71 6 8 214 3 ∷ step 1 1 68 6 8 179 7 ∷ step 1 0 69 1 11 136 0 ∷ []))
    ∷ why_is four 1 1 7 (explained (step 1 1 7 1 14 184 0 ∷ []))
    ∷ why_is four 1 0 7 (explained (step 1 0 0 1 12 140 0 ∷ []))
    ∷ why_is four 1 1 8 (explained (step 1 1 7 6 0 0 0 ∷ step 1 0 7 1 18 147 0 ∷ []))
    ∷ why_is four 1 2 10 (explained (step 1 2 3 1 21 235 0 ∷ []))
    ∷ why_is four 1 1 15 (explained (step 1 1 0 6 0 0 0 ∷ step 1 0 0 1 22 152 0 ∷ []))
    ∷ why_is four 1 2 15 (explained (step 1 2 2 1 24 244 0 ∷ []))
    ∷ why_is four 1 1 16 (explained (step 1 1 0 1 25 188 0 ∷ []))
    ∷ why_is four 1 3 16 (explained (step 1 3 0 4 0 0 0 ∷ []))
    ∷ why_is four 0 0 17 (explained (step 0 0 0 5 0 0 0 ∷ []))
    ∷ why_is four 1 2 17 (explained (step 1 2 0 1 26 292 0 ∷ []))
    ∷ why_is four 1 0 18 (explained (step 1 0 0 1 27 285 0 ∷ []))
    ∷ why_is four 1 0 19 (explained (step 1 0 2 1 28 287 0 ∷ []))
    ∷ why_is four 1 1 19 (explained (step 1 1 0 5 0 0 0 ∷ []))
    ∷ why_is four 1 1 20 (explained (step 1 1 0 1 30 310 0 ∷ []))
    ∷ why_is four 1 2 20 (explained (step 1 2 0 5 0 0 0 ∷ []))
    ∷ why_is four 1 0 21 (explained (step 1 0 0 5 0 0 0 ∷ []))
    ∷ why_is four 1 0 22 (explained (step 1 0 3 1 32 307 0 ∷ []))
    ∷ why_is four 1 3 23 (explained (step 1 3 3 1 33 322 0 ∷ []))
    ∷ []

abbrev pub rows : List Row
rows =
    row_is two 1 0 (1 ∷ 2 ∷ 7 ∷ 1 ∷ 1 ∷ 1 ∷ 1 ∷ 1 ∷ 1 ∷ 1 ∷ 1 ∷ 1 ∷ 1 ∷ 1 ∷ 1 ∷ 1 ∷ 1 ∷ 1 ∷ 1 ∷ 5 ∷ 5 ∷ 5 ∷ 5 ∷ 5 ∷ [])
    (1 ∷ 0 ∷ 0 ∷ 5 ∷ 9 ∷ 10 ∷ 11 ∷ 12 ∷ 17 ∷ 17 ∷ 17 ∷ 15 ∷ 16 ∷ 22 ∷ 22 ∷ 22 ∷ 25 ∷ 26 ∷ 27 ∷ 0 ∷ 0 ∷ 0 ∷ 0 ∷ 0 ∷ [])
    ∷ row_is three 0 0 (1 ∷ 2 ∷ 1 ∷ 1 ∷ 1 ∷ 1 ∷ 1 ∷ 1 ∷ 1 ∷ 1 ∷ 1 ∷ 1 ∷ 1 ∷ 1 ∷ 1 ∷ 1 ∷ 1 ∷ 5 ∷ 5 ∷ 5 ∷ 5 ∷ 5 ∷ 5 ∷ 5 ∷ [])
    (1 ∷ 0 ∷ 2 ∷ 4 ∷ 9 ∷ 10 ∷ 11 ∷ 14 ∷ 19 ∷ 20 ∷ 21 ∷ 15 ∷ 16 ∷ 22 ∷ 23 ∷ 24 ∷ 25 ∷ 0 ∷ 0 ∷ 0 ∷ 0 ∷ 0 ∷ 0 ∷ 0 ∷ [])
    ∷ row_is three 1 0 (1 ∷ 2 ∷ 1 ∷ 1 ∷ 1 ∷ 1 ∷ 1 ∷ 1 ∷ 1 ∷ 1 ∷ 1 ∷ 1 ∷ 1 ∷ 1 ∷ 1 ∷ 1 ∷ 1 ∷ 5 ∷ 5 ∷ 5 ∷ 1 ∷ 1 ∷ 5 ∷ 1 ∷ [])
    (1 ∷ 0 ∷ 2 ∷ 5 ∷ 9 ∷ 10 ∷ 11 ∷ 13 ∷ 18 ∷ 18 ∷ 18 ∷ 15 ∷ 16 ∷ 22 ∷ 22 ∷ 22 ∷ 25 ∷ 0 ∷ 0 ∷ 0 ∷ 30 ∷ 31 ∷ 0 ∷ 33 ∷ [])
    ∷ row_is four 0 2 (1 ∷ 2 ∷ 3 ∷ 3 ∷ 4 ∷ 4 ∷ 4 ∷ 4 ∷ 4 ∷ 4 ∷ 4 ∷ 4 ∷ 4 ∷ 4 ∷ 4 ∷ 4 ∷ 4 ∷ 5 ∷ 5 ∷ 5 ∷ 5 ∷ 5 ∷ 5 ∷ 5 ∷ [])
    (1 ∷ 0 ∷ 0 ∷ 0 ∷ 0 ∷ 0 ∷ 0 ∷ 0 ∷ 0 ∷ 0 ∷ 0 ∷ 0 ∷ 0 ∷ 0 ∷ 0 ∷ 0 ∷ 0 ∷ 0 ∷ 0 ∷ 0 ∷ 0 ∷ 0 ∷ 0 ∷ 0 ∷ [])
    ∷ row_is four 0 3 (1 ∷ 2 ∷ 6 ∷ 1 ∷ 4 ∷ 4 ∷ 4 ∷ 4 ∷ 4 ∷ 4 ∷ 4 ∷ 4 ∷ 4 ∷ 4 ∷ 4 ∷ 4 ∷ 4 ∷ 5 ∷ 5 ∷ 5 ∷ 5 ∷ 5 ∷ 5 ∷ 5 ∷ [])
    (1 ∷ 0 ∷ 0 ∷ 5 ∷ 0 ∷ 0 ∷ 0 ∷ 0 ∷ 0 ∷ 0 ∷ 0 ∷ 0 ∷ 0 ∷ 0 ∷ 0 ∷ 0 ∷ 0 ∷ 0 ∷ 0 ∷ 0 ∷ 0 ∷ 0 ∷ 0 ∷ 0 ∷ [])
    ∷ row_is four 1 1 (1 ∷ 2 ∷ 7 ∷ 1 ∷ 6 ∷ 6 ∷ 6 ∷ 1 ∷ 6 ∷ 6 ∷ 6 ∷ 6 ∷ 6 ∷ 6 ∷ 6 ∷ 6 ∷ 1 ∷ 1 ∷ 1 ∷ 5 ∷ 1 ∷ 5 ∷ 5 ∷ 5 ∷ [])
    (1 ∷ 0 ∷ 0 ∷ 5 ∷ 6 ∷ 7 ∷ 8 ∷ 14 ∷ 0 ∷ 0 ∷ 0 ∷ 0 ∷ 0 ∷ 0 ∷ 0 ∷ 0 ∷ 25 ∷ 26 ∷ 27 ∷ 0 ∷ 30 ∷ 0 ∷ 0 ∷ 0 ∷ [])
    ∷ row_is four 1 2 (1 ∷ 2 ∷ 6 ∷ 6 ∷ 6 ∷ 6 ∷ 6 ∷ 1 ∷ 1 ∷ 1 ∷ 1 ∷ 1 ∷ 1 ∷ 1 ∷ 1 ∷ 1 ∷ 1 ∷ 1 ∷ 5 ∷ 5 ∷ 5 ∷ 5 ∷ 5 ∷ 5 ∷ [])
    (1 ∷ 0 ∷ 0 ∷ 0 ∷ 6 ∷ 7 ∷ 8 ∷ 13 ∷ 19 ∷ 20 ∷ 21 ∷ 15 ∷ 16 ∷ 22 ∷ 23 ∷ 24 ∷ 25 ∷ 26 ∷ 0 ∷ 0 ∷ 0 ∷ 0 ∷ 0 ∷ 0 ∷ [])
    ∷ row_is four 1 3 (1 ∷ 2 ∷ 1 ∷ 6 ∷ 4 ∷ 4 ∷ 4 ∷ 4 ∷ 4 ∷ 4 ∷ 4 ∷ 4 ∷ 4 ∷ 4 ∷ 4 ∷ 4 ∷ 4 ∷ 1 ∷ 1 ∷ 1 ∷ 1 ∷ 1 ∷ 1 ∷ 1 ∷ [])
    (1 ∷ 0 ∷ 3 ∷ 0 ∷ 0 ∷ 0 ∷ 0 ∷ 0 ∷ 0 ∷ 0 ∷ 0 ∷ 0 ∷ 0 ∷ 0 ∷ 0 ∷ 0 ∷ 0 ∷ 26 ∷ 27 ∷ 29 ∷ 30 ∷ 31 ∷ 32 ∷ 33 ∷ [])
    ∷ row_is five 0 0 (1 ∷ 2 ∷ 1 ∷ 1 ∷ 1 ∷ 1 ∷ 1 ∷ 1 ∷ 1 ∷ 1 ∷ 1 ∷ 1 ∷ 1 ∷ 1 ∷ 1 ∷ 1 ∷ 1 ∷ 5 ∷ 5 ∷ 5 ∷ 5 ∷ 5 ∷ 5 ∷ 5 ∷ [])
    (1 ∷ 0 ∷ 2 ∷ 4 ∷ 9 ∷ 10 ∷ 11 ∷ 12 ∷ 17 ∷ 17 ∷ 17 ∷ 15 ∷ 16 ∷ 22 ∷ 22 ∷ 22 ∷ 25 ∷ 0 ∷ 0 ∷ 0 ∷ 0 ∷ 0 ∷ 0 ∷ 0 ∷ [])
    ∷ row_is five 0 1 (1 ∷ 2 ∷ 6 ∷ 6 ∷ 6 ∷ 6 ∷ 6 ∷ 6 ∷ 6 ∷ 6 ∷ 6 ∷ 1 ∷ 1 ∷ 6 ∷ 6 ∷ 6 ∷ 1 ∷ 5 ∷ 5 ∷ 5 ∷ 5 ∷ 5 ∷ 5 ∷ 5 ∷ [])
    (1 ∷ 0 ∷ 0 ∷ 0 ∷ 0 ∷ 0 ∷ 0 ∷ 0 ∷ 0 ∷ 0 ∷ 0 ∷ 15 ∷ 16 ∷ 0 ∷ 0 ∷ 0 ∷ 25 ∷ 0 ∷ 0 ∷ 0 ∷ 0 ∷ 0 ∷ 0 ∷ 0 ∷ [])
    ∷ row_is five 0 2 (1 ∷ 2 ∷ 6 ∷ 6 ∷ 6 ∷ 6 ∷ 6 ∷ 6 ∷ 1 ∷ 1 ∷ 1 ∷ 6 ∷ 6 ∷ 6 ∷ 6 ∷ 6 ∷ 1 ∷ 5 ∷ 5 ∷ 5 ∷ 5 ∷ 5 ∷ 5 ∷ 5 ∷ [])
    (1 ∷ 0 ∷ 0 ∷ 0 ∷ 0 ∷ 0 ∷ 0 ∷ 0 ∷ 18 ∷ 18 ∷ 18 ∷ 0 ∷ 0 ∷ 0 ∷ 0 ∷ 0 ∷ 25 ∷ 0 ∷ 0 ∷ 0 ∷ 0 ∷ 0 ∷ 0 ∷ 0 ∷ [])
    ∷ row_is five 0 3 (1 ∷ 2 ∷ 1 ∷ 1 ∷ 6 ∷ 6 ∷ 6 ∷ 6 ∷ 6 ∷ 6 ∷ 6 ∷ 6 ∷ 6 ∷ 1 ∷ 1 ∷ 1 ∷ 1 ∷ 5 ∷ 5 ∷ 5 ∷ 5 ∷ 5 ∷ 5 ∷ 5 ∷ [])
    (1 ∷ 0 ∷ 2 ∷ 5 ∷ 0 ∷ 0 ∷ 0 ∷ 0 ∷ 0 ∷ 0 ∷ 0 ∷ 0 ∷ 0 ∷ 22 ∷ 23 ∷ 24 ∷ 25 ∷ 0 ∷ 0 ∷ 0 ∷ 0 ∷ 0 ∷ 0 ∷ 0 ∷ [])
    ∷ row_is six 0 0 (1 ∷ 2 ∷ 1 ∷ 1 ∷ 1 ∷ 1 ∷ 1 ∷ 1 ∷ 1 ∷ 1 ∷ 1 ∷ 1 ∷ 1 ∷ 1 ∷ 1 ∷ 1 ∷ 1 ∷ 5 ∷ 5 ∷ 5 ∷ 5 ∷ 5 ∷ 5 ∷ 5 ∷ [])
    (1 ∷ 0 ∷ 2 ∷ 4 ∷ 9 ∷ 10 ∷ 11 ∷ 12 ∷ 17 ∷ 17 ∷ 17 ∷ 15 ∷ 16 ∷ 22 ∷ 22 ∷ 22 ∷ 25 ∷ 0 ∷ 0 ∷ 0 ∷ 0 ∷ 0 ∷ 0 ∷ 0 ∷ [])
    ∷ []

pub worked : (map computed_bit field_bits ≡ map worked_bit field_bits) × (flags ≡ 170 ∷ 171 ∷ 172 ∷ []) × (map computed_answer questions ≡ map worked_answer questions)
    × (map computed_row rows ≡ map worked_row rows)
unfolding slice number run bit each from size_from bed_assignment bed_instances intermediate_spatial_format num_dynamic_objects reserved_data program_assignment labels bed_objects
    all_beds named agrees shares class_of sample_offset block_update_info md_update_info offset_of ramp_of start_of timing_of status_idx object_basic_info differences coordinates position
    distance zone extent screen object_render_info additional_table_data object_info_block object_data object_element obj_div_block ext_prec_pos_block extended_object_element gain_of
    priority_of distance_of location_of volume_of resolve scenes_from scenes_of all_scenes plain_records extended_records record_bytes_of trim_config trim_element trim_of kind framed scenes fields
    pass_over read_known oa_element oa_element_md elements oa_md_version object_count oa_element_count header object_audio_metadata_payload timing records tables missing_of arrival
    gain_source priority_source x_source y_source z_source distance_source size_source screen_source scene_sources divergence_sources precise_sources kinds payload_kinds kinds_in index_of path_of
    bit_of field_bit block_at record_at divergence_sent presence_sent sources_at source_at chain value_at told steps_told explaining
worked = (refl, refl, refl, refl)
