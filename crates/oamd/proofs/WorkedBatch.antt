-- A shelf worked by hand: the payload 01 07 C1 00 (1 dynamic object, no blocks, 1 unknown element), four times from one store of 6 bytes, which has two other bytes behind
-- it. In full, cut to 3 bytes (refusal 2 at bit 18 with 7 missing), leaving the store (refusal 12 at its start, 3), and of no bytes at the store's end (refusal 2 at 0, 2 bits
-- missing). The slots hold nothing for records and 95 bytes for the trim table, which is all 0; one byte lies behind the slots and one behind the places.
use mathlib.Core.Path.{◌≡◌, refl}
use mathlib.Core.List.{List, [], ◌∷◌, ◌++◌}
use Prim.Native.Nat.{ℕ, ◌+◌}
use lib.ListN.{replicate}
use Rattle.bits.specs.Language.{slice, number, run, bit, each, from}
use Rattle.bits.specs.Size.{size_from}
use Rattle.oamd.specs.Programme.{bed_assignment, bed_instances, intermediate_spatial_format, num_dynamic_objects, reserved_data, program_assignment, labels, bed_objects}
use Rattle.oamd.specs.Programme.{all_beds, named, agrees, shares, class_of}
use Rattle.oamd.specs.Timing.{sample_offset, block_update_info, md_update_info, offset_of, ramp_of, start_of, timing_of}
use Rattle.oamd.specs.Block.{status_idx, object_basic_info, differences, coordinates, position, distance, zone, extent, screen, object_render_info, additional_table_data, object_info_block}
use Rattle.oamd.specs.ObjectElement.{object_data, object_element}
use Rattle.oamd.specs.Extended.{obj_div_block, ext_prec_pos_block, extended_object_element}
use Rattle.oamd.specs.Meaning.{gain_of, priority_of, distance_of, location_of, volume_of, resolve, scenes_from, scenes_of, all_scenes}
use Rattle.oamd.specs.Record.{plain_records, extended_records, record_bytes_of, onto}
use Rattle.oamd.specs.Time.{timed_bytes_of}
use Rattle.oamd.specs.Trim.{trim_config, trim_element, trim_of, configs_bytes_of, trim_bytes_of}
use Rattle.oamd.specs.Element.{kind, framed, scenes, fields, pass_over, read_known, oa_element, oa_element_md, elements}
use Rattle.oamd.specs.Payload.{oa_md_version, object_count, oa_element_count, header, object_audio_metadata_payload, timing, records, tables}
use Rattle.oamd.specs.Answer.{missing_of, housed, reading}
use Rattle.oamd.specs.LeastFirst.{least_first}
use Rattle.oamd.specs.Batch.{each_bytes, bed_bytes_of, programme_bytes_of, update_bytes_of, timing_bytes_of, answer_bytes_of, entry, Shelf, shelved, roomy, batched_with, batching}

-- a place: the place's eight bytes, refusal, unknown, objects, dynonly, and the missing bits; all else is 0
abbrev place : ℕ → ℕ → ℕ → ℕ → ℕ → ℕ → List ℕ
place at refusal unknown objects dynonly missing =
    (at ∷ replicate 7 0) ++ ((refusal ∷ unknown ∷ 0 ∷ 0 ∷ objects ∷ dynonly ∷ []) ++ (replicate 118 0 ++ (missing ∷ 0 ∷ 0 ∷ 0 ∷ [])))

abbrev store : List ℕ
store = 1 ∷ 7 ∷ 193 ∷ 0 ∷ 255 ∷ 255 ∷ []

-- everything lent holds sevens
abbrev came : Shelf
came = record { records = 7 ∷ []; trims = replicate 381 7; answers = replicate 545 7 }

-- slots of 95 bytes: of the first entry its trim table, the others as they came
abbrev after : Shelf
after = record {
  records = 7 ∷ [];
  trims = replicate 95 0 ++ replicate 286 7;
  answers = place 0 0 1 1 1 0 ++ (place 18 2 0 0 0 7 ++ (place 3 12 0 0 0 0 ++ (place 0 2 0 0 0 2 ++ (7 ∷ []))));
}

-- the lists of starts, lengths and frames
abbrev starts : List ℕ
starts = 0 ∷ 0 ∷ 3 ∷ 6 ∷ []

abbrev lengths : List ℕ
lengths = 4 ∷ 3 ∷ 4 ∷ 0 ∷ []

abbrev frames : List ℕ
frames = 7 ∷ 8 ∷ 9 ∷ 4294967295 ∷ []

shelf-worked : batching store starts lengths frames 0 95 came ≡ record { answer = batched_with 0 0; shelf = after }
unfolding size_from slice number run bit each from gain_of start_of bed_assignment bed_instances intermediate_spatial_format num_dynamic_objects
    reserved_data program_assignment labels bed_objects all_beds named agrees shares class_of plain_records extended_records record_bytes_of timed_bytes_of
    onto kind framed scenes fields pass_over read_known oa_element oa_element_md elements oa_md_version object_count oa_element_count header
    object_audio_metadata_payload timing records tables trim_config trim_element trim_of configs_bytes_of trim_bytes_of missing_of housed reading
    sample_offset block_update_info md_update_info offset_of ramp_of timing_of status_idx object_basic_info differences coordinates position
    distance zone extent screen object_render_info additional_table_data object_info_block object_data object_element obj_div_block
    ext_prec_pos_block extended_object_element priority_of distance_of location_of volume_of resolve scenes_from scenes_of all_scenes least_first
    each_bytes bed_bytes_of programme_bytes_of update_bytes_of timing_bytes_of answer_bytes_of entry shelved roomy batching
shelf-worked = refl

-- with slots of 94 bytes the whole trim table does not fit: refusal 9 with the 95 bytes needed
short-worked : shelved store (0 ∷ []) (4 ∷ []) (7 ∷ []) 0 94 (record { records = []; trims = replicate 94 7; answers = replicate 136 7 })
    ≡ record { records = []; trims = replicate 94 7; answers = place 95 9 0 0 0 0 }
unfolding size_from slice number run bit each from gain_of start_of bed_assignment bed_instances intermediate_spatial_format num_dynamic_objects
    reserved_data program_assignment labels bed_objects all_beds named agrees shares class_of plain_records extended_records record_bytes_of timed_bytes_of
    onto kind framed scenes fields pass_over read_known oa_element oa_element_md elements oa_md_version object_count oa_element_count header
    object_audio_metadata_payload timing records tables trim_config trim_element trim_of configs_bytes_of trim_bytes_of missing_of housed reading
    sample_offset block_update_info md_update_info offset_of ramp_of timing_of status_idx object_basic_info differences coordinates position
    distance zone extent screen object_render_info additional_table_data object_info_block object_data object_element obj_div_block
    ext_prec_pos_block extended_object_element priority_of distance_of location_of volume_of resolve scenes_from scenes_of all_scenes least_first
    each_bytes bed_bytes_of programme_bytes_of update_bytes_of timing_bytes_of answer_bytes_of entry shelved roomy batching
short-worked = refl

-- 13: four starts and three lengths; four starts and three frames; and one byte too few for four slots
lists-worked : batching store starts (4 ∷ 3 ∷ 4 ∷ []) frames 0 95 came ≡ record { answer = batched_with 13 4; shelf = came }
unfolding roomy batching
lists-worked = refl

frames-worked : batching store starts lengths (7 ∷ 8 ∷ 9 ∷ []) 0 95 came ≡ record { answer = batched_with 13 4; shelf = came }
unfolding roomy batching
frames-worked = refl

room-worked : batching store starts lengths frames 0 96 came ≡ record { answer = batched_with 13 4; shelf = came }
unfolding roomy batching
room-worked = refl
