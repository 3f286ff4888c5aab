-- The examples of docs/DECISIONS.md, "Worked by hand", two trim elements and a payload with records of each class and each status, worked by hand: one
-- list, one statement, shown by computation.
use mathlib.Core.Path.{◌≡◌, refl}
use mathlib.Core.List.{List, [], ◌∷◌, ◌++◌}
use Prim.Native.Nat.{ℕ, ◌+◌, ◌-◌, ◌*◌}
use lib.ListN.{length, replicate}
use Rattle.bits.specs.Language.{ok, slice, number, run, bit, each, from, past_payload}
use Rattle.bits.specs.Writes.{listed}
use Rattle.bits.specs.Size.{size_from, size_of, variable_bits_max}
use Rattle.oamd.specs.declared.ReadAnswer.{ReadAnswer}
use Rattle.oamd.specs.declared.Timing.{Timing}
use Rattle.oamd.specs.declared.Update.{Update}
use Rattle.oamd.specs.Tables.{most_trim}
use Rattle.oamd.specs.Programme.{bed_assignment, bed_instances, intermediate_spatial_format, num_dynamic_objects, reserved_data, program_assignment, labels, bed_objects}
use Rattle.oamd.specs.Programme.{all_beds, named, agrees, shares, class_of}
use Rattle.oamd.specs.Timing.{sample_offset, block_update_info, md_update_info, offset_of, ramp_of, start_of, no_update, timing_of}
use Rattle.oamd.specs.Block.{status_idx, object_basic_info, differences, coordinates, position, distance, zone, extent, screen, object_render_info, additional_table_data, object_info_block}
use Rattle.oamd.specs.ObjectElement.{object_data, object_element}
use Rattle.oamd.specs.Extended.{obj_div_block, ext_prec_pos_block, extended_object_element}
use Rattle.oamd.specs.Meaning.{gain_of, priority_of, distance_of, location_of, volume_of, resolve, scenes_from, scenes_of, all_scenes}
use Rattle.oamd.specs.Record.{plain_records, extended_records, record_bytes_of, onto}
use Rattle.oamd.specs.LeastFirst.{least_first}
use Rattle.oamd.specs.Time.{block_time, time_bytes_of, timed_bytes_of}
use Rattle.oamd.specs.Trim.{trim_config, trim_element, trim_of, configs_bytes_of, trim_bytes_of, trim_needed}
use Rattle.oamd.specs.Element.{kind, framed, scenes, fields, pass_over, read_known, oa_element, oa_element_md, elements}
use Rattle.oamd.specs.Payload.{oa_md_version, object_count, oa_element_count, header, object_audio_metadata_payload, timing, records, tables}
use Rattle.oamd.specs.Answer.{missing_of, refused_with, housed, reading}

-- a size by its groups, each a hex digit and a flag; a gain by its bits, in dB plus 50; a start by sample offset and factor; a time by frame and start, as
-- bytes; a payload by its bytes, with the numbers that its listing prints; a payload that is refused by its bytes, with the refusal, its place and the missing bits; a
-- payload of one object by its bytes, with its trim table; a payload by its frame and its bytes, with the numbers that its listing prints, the starts and ramps of its
-- blocks, and the bytes of its records
pub data Example : Type 0 where
  size : List ℕ → ℕ → Example
  gain : ℕ → ℕ → Example
  start : ℕ → ℕ → ℕ → Example
  time : ℕ → ℕ → List ℕ → Example
  payload : List ℕ → List ℕ → Example
  stopped : List ℕ → ℕ → ℕ → ℕ → Example
  trim : List ℕ → List ℕ → Example
  scene : ℕ → List ℕ → List ℕ → List ℕ → List ℕ → Example

-- a group's digit and flag, in the five upper bits of a byte, are put one behind the other as bits
unfoldable pub groups : List ℕ → List ℕ
groups [] = []
groups (g ∷ gs) = slice (bit (g ∷ [])) 0 5 ++ groups gs

-- room for a trim table
abbrev pub room : List ℕ
room = replicate most_trim 0

-- what the listing prints before the blocks
abbrev pub printed : ReadAnswer → List ℕ
printed a = a.refusal ∷ a.place ∷ a.programme.objects ∷ (shares a.programme).bed ∷ (shares a.programme).isf ∷ (shares a.programme).dynamic
    ∷ a.timing.blocks ∷ a.unknown ∷ []

-- one block, which starts at a sample
abbrev pub one_block : ℕ → Timing
one_block sample = record { blocks = 1; updates = record { start = record { 0 = sample }; ramp = record { 0 = 0 } } ∷ replicate 7 no_update }

-- the start and the ramp of each entry of a timing
abbrev pub times_of : List Update → List ℕ
times_of [] = []
times_of (u ∷ us) = u.start.0 ∷ u.ramp.0 ∷ times_of us

abbrev pub Holds : Example → Type 0
Holds (size gs n) = run variable_bits_max (listed (groups gs)) 0 (length (groups gs)) past_payload ≡ ok (size_of n (length gs)) (5 * length gs)
Holds (gain bits db) = gain_of (record { index = 2; bits = bits }) 0 ≡ db
Holds (start offset factor sample) = start_of offset factor ≡ sample
Holds (time frame sample bytes) = time_bytes_of (block_time frame (one_block sample) 0) ≡ bytes
Holds (payload s numbers) = printed (reading 0 s [] room).answer ≡ numbers
Holds (stopped s number place missing) = (reading 0 s [] room).answer ≡ refused_with number place missing
Holds (trim s table) = (reading 0 s [] room).trim ≡ table ++ replicate (most_trim - trim_needed 1) 0
Holds (scene frame s numbers times bytes) =
    let o = reading frame s (replicate (length bytes) 0) room in
    (printed o.answer ≡ numbers) × (times_of o.answer.timing.updates ≡ times) × (o.buffer ≡ bytes)

abbrev pub All : List Example → Type 0
All [] = Unit {0}
All (e ∷ es) = Holds e × All es

-- warp_mode 1, the reserved bits 11, global_trim_mode 0, and the flag of the one object: 01 11 00 1 1
abbrev pub one_flag : List ℕ
one_flag = 0x01 ∷ 0x04 ∷ 0x84 ∷ 0x73 ∷ 0x00 ∷ []

-- global_trim_mode 2: 00 00 10, then the configurations 1; 01; 00 11111 0101 0100 1111 1 0011 0 1001; 00 10000 1 1111; 00 00001 0000; 1; 1; 1; 1, then 0
abbrev pub nine_configs : List ℕ
nine_configs = 0x01 ∷ 0x04 ∷ 0xA0 ∷ 0x0A ∷ 0x9F ∷ 0x54 ∷ 0xF9 ∷ 0xA4 ∷ 0x87 ∷ 0xC0 ∷ 0x87 ∷ 0x80 ∷ []

-- a configuration with the default trim
abbrev pub by_default : List ℕ
by_default = 1 ∷ replicate 9 0

-- what they give
abbrev pub configured : List ℕ
configured =
    by_default
    ++ ((0 ∷ 1 ∷ replicate 8 0)
    ++ ((0 ∷ 0 ∷ 31 ∷ 5 ∷ 4 ∷ 15 ∷ 1 ∷ 3 ∷ 0 ∷ 9 ∷ [])
    ++ ((0 ∷ 0 ∷ 16 ∷ 0 ∷ 0 ∷ 0 ∷ 0 ∷ 0 ∷ 1 ∷ 15 ∷ [])
    ++ ((0 ∷ 0 ∷ 1 ∷ replicate 7 0) ++ (by_default ++ (by_default ++ (by_default ++ by_default)))))))

-- One bed object (LFE), four ISF objects, one dynamic object, four blocks; alternate ids are sent. The elements: id 1 with the alternate id 3, which is unknown; id
-- 1 with 0, the object element; id 5 with 2, the extended element.
--   header: 00 00101 0 0111 0 0 1 000 00000 1 0011
--   unknown element: 0001 00000 0011 0 000
--   object element, 30 bytes: 0001 00001 11010 0000 0, then
--     times: 01 10 011, 000000 00, 010000 01, 110000 10, 111111 11 1 0110, and 1 for no reserved bits
--     bed: full 0 00 1 0, reuse 0 10 0, mixed with a gain 0 11 01 10 001111 0, inactive 1 0
--     ISF: full with the gain of the object before 0 11 0 01010 0, default 0 00 0, full 0 01 01 1 0, reuse 0 10 0; three inactive objects, 10 in each block
--     dynamic, full: 0 11 0 11111, position 111111 000101 0 0111, distance 1 0 0011, zone 101 0, size 10 00001 00010 11111, screen 1 101 10, snap 1, 0
--     dynamic, reuse and mixed: 0 10 11 0001, moved by 1 001 100 111, no distance 0, snap 0, 0
--     dynamic, mixed with a priority and reuse: 0 11 10 1 10, then 1 0000 10100101, which is passed over
--     dynamic, full and default: 0 01 10 000000 0 00000 00 0
--   extended element, 5 bytes: 0101 00100 0010 1, divergence 1: 1 00 10, 0, 1 10 000111, 1 01; precise positions 1: 1 101 01 11, 0, 1 000, 0
abbrev pub each_status : List ℕ
each_status =
    0x0A ∷ 0x72 ∷ 0x01 ∷ 0x31 ∷ 0x01 ∷ 0x80 ∷ 0x87 ∷ 0x80 ∷ 0x66 ∷ 0x00 ∷ 0x83 ∷ 0x85 ∷ 0xFF ∷ 0x68 ∷ 0x91 ∷ 0xB1 ∷ 0xE9 ∷ 0x94 ∷ 0x02 ∷ 0xC9 ∷ 0x55 ∷ 0x55
    ∷ 0x54 ∷ 0xDF ∷ 0xFC ∷ 0x53 ∷ 0xC7 ∷ 0x50 ∷ 0x45 ∷ 0xFD ∷ 0xA5 ∷ 0x8C ∷ 0xCE ∷ 0x1D ∷ 0xA1 ∷ 0x4A ∷ 0x60 ∷ 0x00 ∷ 0x0A ∷ 0x82 ∷ 0xE4 ∷ 0xC3 ∷ 0xDE ∷ 0xBA ∷ 0x00
    ∷ []

-- a record without render info: active, class, gain, priority, and the defaults
abbrev pub without : ℕ → ℕ → ℕ → ℕ → List ℕ
without active class level priority = active ∷ class ∷ level ∷ priority ∷ 31 ∷ 31 ∷ 64 ∷ 0 ∷ 0 ∷ 0 ∷ 0 ∷ 0 ∷ 1 ∷ replicate 11 0

-- the times of its four blocks in frame 7, which begins at 10,752: behind that 18, 530, 1,554 and 2,034, so 0x2A12, 0x2C12, 0x3012 and 0x31F2, least byte first
abbrev pub first_time : List ℕ
first_time = 0x12 ∷ 0x2A ∷ replicate 6 0

abbrev pub second_time : List ℕ
second_time = 0x12 ∷ 0x2C ∷ replicate 6 0

abbrev pub third_time : List ℕ
third_time = 0x12 ∷ 0x30 ∷ replicate 6 0

abbrev pub fourth_time : List ℕ
fourth_time = 0xF2 ∷ 0x31 ∷ replicate 6 0

-- the four records of an object, each with its time
abbrev pub four : List ℕ → List ℕ → List ℕ → List ℕ → List ℕ
four a b c d = (a ++ first_time) ++ ((b ++ second_time) ++ ((c ++ third_time) ++ (d ++ fourth_time)))

-- those of an object that is never active
abbrev pub quiet : ℕ → List ℕ
quiet class = four (without 0 class 0 0) (without 0 class 0 0) (without 0 class 0 0) (without 0 class 0 0)

-- what it gives, object by object and block by block
abbrev pub each_status_records : List ℕ
each_status_records =
    four (without 1 0 50 32) (without 1 0 50 32) (without 1 0 49 32) (without 0 0 0 0)
    ++ (four (without 1 1 50 10) (without 1 1 0 0) (without 1 1 0 32) (without 1 1 0 32)
    ++ (quiet 1
    ++ (quiet 1
    ++ (quiet 1
    ++ four
    (1 ∷ 2 ∷ 0 ∷ 31 ∷ 62 ∷ 5 ∷ 57 ∷ 5 ∷ 1 ∷ 2 ∷ 31 ∷ 5 ∷ 0 ∷ 1 ∷ 5 ∷ 2 ∷ 1 ∷ 1 ∷ 0 ∷ 2 ∷ 5 ∷ 1 ∷ 0 ∷ 3 ∷ [])
    (1 ∷ 2 ∷ 0 ∷ 31 ∷ 62 ∷ 1 ∷ 56 ∷ 0 ∷ 1 ∷ 2 ∷ 31 ∷ 5 ∷ 0 ∷ 1 ∷ 5 ∷ 2 ∷ 0 ∷ 0 ∷ 0 ∷ 0 ∷ 0 ∷ 0 ∷ 0 ∷ 0 ∷ [])
    (1 ∷ 2 ∷ 0 ∷ 32 ∷ 62 ∷ 1 ∷ 56 ∷ 0 ∷ 1 ∷ 2 ∷ 31 ∷ 5 ∷ 0 ∷ 1 ∷ 5 ∷ 2 ∷ 0 ∷ 1 ∷ 2 ∷ 7 ∷ 0 ∷ 0 ∷ 0 ∷ 0 ∷ [])
    (1 ∷ 2 ∷ 65 ∷ 0 ∷ 31 ∷ 31 ∷ 64 ∷ 0 ∷ 0 ∷ 0 ∷ 0 ∷ 0 ∷ 1 ∷ 0 ∷ 0 ∷ 0 ∷ 0 ∷ 1 ∷ 1 ∷ 0 ∷ 0 ∷ 0 ∷ 0 ∷ 0 ∷ [])))))

abbrev pub examples : List Example
examples =
    size (0x00 ∷ []) 0
    ∷ size (0xF0 ∷ []) 15
    ∷ size (0x08 ∷ 0x00 ∷ []) 16
    ∷ size (0xF8 ∷ 0xF0 ∷ []) 271
    ∷ size (0x08 ∷ 0x08 ∷ 0x00 ∷ []) 272
    ∷ size (0x08 ∷ 0x08 ∷ 0x08 ∷ 0x08 ∷ 0x00 ∷ []) 69904
    ∷ gain 0 (50 + 15)
    ∷ gain 14 (50 + 1)
    ∷ gain 15 49
    ∷ gain 63 1
    ∷ start 0 48 1536
    ∷ start 31 63 2047
    ∷ time 0 32 (0x20 ∷ replicate 7 0)
    ∷ time 7 32 (0x20 ∷ 0x2A ∷ replicate 6 0)
    ∷ time 1 1536 (0 ∷ 0x0C ∷ replicate 6 0)
    ∷ time 4294967295 2047 (0xFF ∷ 0x01 ∷ 0 ∷ 0 ∷ 0 ∷ 0x06 ∷ 0 ∷ 0 ∷ [])
    ∷ payload (0x01 ∷ 0x07 ∷ 0xC1 ∷ 0x00 ∷ []) (0 ∷ 0 ∷ 1 ∷ 0 ∷ 0 ∷ 1 ∷ 0 ∷ 1 ∷ [])
    ∷ stopped [] 2 0 2
    ∷ stopped (0x01 ∷ []) 2 8 1
    ∷ stopped (0x01 ∷ 0x07 ∷ []) 2 14 2
    ∷ stopped (0x01 ∷ 0x07 ∷ 0xC1 ∷ []) 2 18 7
    ∷ stopped (0x01 ∷ 0x3C ∷ 0x01 ∷ 0xFF ∷ 0xFF ∷ 0xFF ∷ []) 2 23 8947840
    ∷ stopped (0x01 ∷ 0x04 ∷ 0x40 ∷ 0x00 ∷ []) 8 29 0
    ∷ trim one_flag (1 ∷ 1 ∷ 0 ∷ replicate 90 0 ++ (1 ∷ 1 ∷ []))
    ∷ trim nine_configs
    (1 ∷ 0 ∷ 2 ∷ configured ++ (0 ∷ 0 ∷ []))
    ∷ scene 7 each_status (0 ∷ 0 ∷ 6 ∷ 1 ∷ 4 ∷ 1 ∷ 4 ∷ 1 ∷ []) (18 ∷ 0 ∷ 530 ∷ 512 ∷ 1554 ∷ 1536 ∷ 2034 ∷ 1000 ∷ replicate 8 0) each_status_records
    ∷ []

pub worked : All examples
unfolding size_from slice number run bit each from groups gain_of start_of bed_assignment bed_instances intermediate_spatial_format num_dynamic_objects
    reserved_data program_assignment labels bed_objects all_beds named agrees shares class_of plain_records extended_records record_bytes_of onto least_first block_time timed_bytes_of kind framed
    scenes fields pass_over read_known oa_element oa_element_md elements oa_md_version object_count oa_element_count header object_audio_metadata_payload timing
    records tables trim_config trim_element trim_of configs_bytes_of trim_bytes_of missing_of housed reading sample_offset block_update_info md_update_info offset_of
    ramp_of timing_of status_idx object_basic_info differences coordinates position distance zone extent screen object_render_info additional_table_data
    object_info_block object_data object_element obj_div_block ext_prec_pos_block extended_object_element priority_of distance_of location_of volume_of resolve
    scenes_from scenes_of all_scenes
worked = (
  refl,
  (
    refl,
    (
      refl,
      (
        refl,
        (
          refl,
          (
            refl,
            (
              refl,
              (
                refl,
                (
                  refl,
                  (
                    refl,
                    (
                      refl,
                      (refl, (refl, (refl, (refl, (refl, (refl, (refl, (refl, (refl, (refl, (refl, (refl, (refl, (refl, ((refl, refl, refl), tt))))))))))))))),
                    ),
                  ),
                ),
              ),
            ),
          ),
        ),
      ),
    ),
  ),
)
