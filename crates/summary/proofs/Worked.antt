-- Two summaries, worked by hand and shown by computation: of three entries, two of them over the same bytes, and of a payload with late blocks and ramps.
use mathlib.Core.Path.{◌≡◌, refl}
use mathlib.Core.List.{List, [], ◌∷◌, ◌++◌}
use Prim.Native.Nat.{ℕ}
use lib.ListN.{replicate}
use Rattle.bits.specs.Language.{slice, run, number, each, from, bit}
use Rattle.bits.specs.Size.{size_from}
use Rattle.oamd.specs.Answer.{missing_of, housed, reading}
use Rattle.oamd.specs.Batch.{entry}
use Rattle.oamd.specs.Block.{status_idx, object_basic_info, differences, coordinates, position, distance, zone, extent, screen, object_render_info, additional_table_data, object_info_block}
use Rattle.oamd.specs.Element.{kind, framed, scenes, fields, pass_over, read_known, oa_element, oa_element_md, elements}
use Rattle.oamd.specs.Extended.{obj_div_block, ext_prec_pos_block, extended_object_element}
use Rattle.oamd.specs.LeastFirst.{least_first}
use Rattle.oamd.specs.Meaning.{gain_of, priority_of, distance_of, location_of, volume_of, resolve, scenes_from, scenes_of, all_scenes}
use Rattle.oamd.specs.ObjectElement.{object_data, object_element}
use Rattle.oamd.specs.Payload.{oa_md_version, object_count, oa_element_count, header, object_audio_metadata_payload, timing, records, tables}
use Rattle.oamd.specs.Programme.{bed_assignment, bed_instances, intermediate_spatial_format, num_dynamic_objects, reserved_data, program_assignment, labels, bed_objects, all_beds}
use Rattle.oamd.specs.Programme.{named, agrees, shares, class_of}
use Rattle.oamd.specs.Record.{plain_records, extended_records, record_bytes_of, onto}
use Rattle.oamd.specs.Time.{block_time, timed_bytes_of}
use Rattle.oamd.specs.Timing.{sample_offset, block_update_info, md_update_info, offset_of, ramp_of, start_of, timing_of}
use Rattle.oamd.specs.Trim.{trim_of, configs_bytes_of, trim_bytes_of}
use Rattle.oamd.proofs.Worked.{each_status}
use Rattle.oamd.specs.declared.Update.{Update}
use Rattle.summary.specs.declared.Summary.{Summary}
use Rattle.summary.specs.Summary.{is_late, tally, tallies, total, joined, zeros, outcomes, accepted_of, summary_of, summing}

-- samples/three-objects.oamd, 45 bytes, and 01 07 C1 00 behind it
abbrev pub store : List ℕ
store =
    0x05 ∷ 0x84 ∷ 0x47 ∷ 0x00 ∷ 0x40 ∷ 0x01 ∷ 0x20 ∷ 0x28 ∷ 0x7F ∷ 0x98 ∷ 0x31 ∷ 0x25 ∷ 0xFF ∷ 0xFF ∷ 0xFE ∷ 0x25 ∷ 0x99 ∷ 0xD0 ∷ 0x84 ∷ 0x7F
    ∷ 0xFF ∷ 0xD5 ∷ 0x00 ∷ 0x0F ∷ 0xFF ∷ 0xFF ∷ 0xFF ∷ 0xFF ∷ 0xFF ∷ 0xFF ∷ 0xFF ∷ 0xFF ∷ 0xFF ∷ 0xFF ∷ 0xFF ∷ 0xFF ∷ 0xFF ∷ 0xFF ∷ 0xFF ∷ 0xFF
    ∷ 0xD2 ∷ 0x24 ∷ 0x83 ∷ 0x84 ∷ 0x00 ∷ 0x01 ∷ 0x07 ∷ 0xC1 ∷ 0x00 ∷ []

-- The sample has two blocks, at 0 and 32, without ramps, and three objects. The bed object is active at the gains 50 and 62, the first dynamic one active at 50 twice, the other
-- one inactive, then active, at 0; no record has a zone. Cut to three bytes, the payload behind it ends early, which is refusal 2; with its four it has one object and no block.
abbrev pub sample_summary : Summary
sample_summary = record {
  place = 0;
  refusal = 0;
  records = 6;
  gains = 2 ∷ replicate 49 0 ++ (3 ∷ replicate 11 0 ++ (1 ∷ replicate 3 0));
  zones = 6 ∷ replicate 5 0;
  classes = 2 ∷ 0 ∷ 4 ∷ [];
  activity = 1 ∷ 5 ∷ [];
  late = 0;
  ramps = 0;
  payloads = 2 ∷ 0 ∷ 1 ∷ replicate 10 0;
}

-- each_status has four blocks, at 18, 530, 1,554 and 2,034, with the ramps 0, 512, 1,536 and 1,000, and six objects. By the list of its records, object by object, with i for inactive:
--   bed: gains 50 50 49 0i
--   ISF: 50 0 0 0, and three objects with 0i four times each
--   dynamic: 0 0 0 65, and zone 5 in the first three; all other records have none
abbrev pub late_summary : Summary
late_summary = record {
  place = 0;
  refusal = 0;
  records = 24;
  gains = 19 ∷ replicate 48 0 ++ (1 ∷ 3 ∷ replicate 14 0 ++ (1 ∷ []));
  zones = 21 ∷ 0 ∷ 0 ∷ 0 ∷ 0 ∷ 3 ∷ [];
  classes = 4 ∷ 16 ∷ 4 ∷ [];
  activity = 13 ∷ 11 ∷ [];
  late = 2;
  ramps = 3048;
  payloads = 1 ∷ replicate 12 0;
}

worked : (summing store (0 ∷ 45 ∷ 45 ∷ []) (45 ∷ 3 ∷ 4 ∷ []) ≡ sample_summary) × (summing each_status (0 ∷ []) (45 ∷ []) ≡ late_summary)
unfolding slice run number each from bit size_from missing_of housed reading entry status_idx object_basic_info differences coordinates position distance zone extent
    screen object_render_info additional_table_data object_info_block kind framed scenes fields pass_over read_known oa_element oa_element_md elements gain_of
    priority_of distance_of location_of volume_of resolve scenes_from scenes_of all_scenes object_data object_element obj_div_block ext_prec_pos_block extended_object_element
    oa_md_version object_count oa_element_count header object_audio_metadata_payload timing records tables bed_assignment bed_instances intermediate_spatial_format
    num_dynamic_objects reserved_data program_assignment labels bed_objects all_beds named agrees shares class_of plain_records extended_records record_bytes_of onto least_first
    block_time timed_bytes_of sample_offset block_update_info md_update_info offset_of ramp_of start_of timing_of trim_of configs_bytes_of trim_bytes_of tally tallies total
    joined zeros outcomes accepted_of summary_of summing
worked = (refl, refl)

pub summary-worked : summing store (0 ∷ 45 ∷ 45 ∷ []) (45 ∷ 3 ∷ 4 ∷ []) ≡ sample_summary
summary-worked = worked.0

pub late-worked : summing each_status (0 ∷ []) (45 ∷ []) ≡ late_summary
late-worked = worked.1

-- a block that starts at a sample
abbrev starting_at : ℕ → Update
starting_at sample = record { start = record { 0 = sample }; ramp = record { 0 = 0 } }

-- the last sample of a frame, and the first behind it
pub edge-worked : (is_late (starting_at 1535) ≡ 0) × (is_late (starting_at 1536) ≡ 1)
edge-worked = (refl, refl)
