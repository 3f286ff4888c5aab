-- Three listings, byte for byte, shown by computation: of the README's sample, and of two payloads that are refused.
use mathlib.Core.Path.{◌≡◌, refl}
use mathlib.Core.List.{List, [], ◌∷◌, ◌++◌}
use Prim.Native.Nat.{ℕ}
use Rattle.bits.specs.Language.{slice, run, number, each, from, bit}
use Rattle.bits.specs.Size.{size_from}
use Rattle.oamd.specs.Answer.{missing_of, housed, reading}
use Rattle.oamd.specs.Block.{status_idx, object_basic_info, differences, coordinates, position, distance, zone, extent, screen, object_render_info, additional_table_data, object_info_block}
use Rattle.oamd.specs.Element.{kind, framed, scenes, fields, pass_over, read_known, oa_element, oa_element_md, elements}
use Rattle.oamd.specs.LeastFirst.{least_first}
use Rattle.oamd.specs.Meaning.{gain_of, priority_of, distance_of, location_of, volume_of, resolve, scenes_from, scenes_of, all_scenes}
use Rattle.oamd.specs.ObjectElement.{object_data, object_element}
use Rattle.oamd.specs.Payload.{oa_md_version, object_count, oa_element_count, header, object_audio_metadata_payload, timing, records, tables}
use Rattle.oamd.specs.Programme.{bed_assignment, bed_instances, intermediate_spatial_format, num_dynamic_objects, reserved_data, program_assignment, labels, bed_objects, all_beds}
use Rattle.oamd.specs.Programme.{named, agrees, shares, class_of}
use Rattle.oamd.specs.Record.{plain_records, record_bytes_of, onto}
use Rattle.oamd.specs.Time.{block_time, timed_bytes_of}
use Rattle.oamd.specs.Timing.{sample_offset, block_update_info, md_update_info, offset_of, ramp_of, start_of, timing_of}
use Rattle.oamd.specs.Trim.{trim_of, configs_bytes_of, trim_bytes_of}
use Rattle.keys.specs.Names.{ascii}
use Rattle.text.specs.Numerals.{decimal}
use Rattle.text.specs.Lines.{texts, line}
use Rattle.text.specs.Listing.{block_lines, record_lines, share_lines, table_lines, listing_of, zeros, listing}

-- samples/three-objects.oamd
abbrev pub sample : List ℕ
sample =
    0x05 ∷ 0x84 ∷ 0x47 ∷ 0x00 ∷ 0x40 ∷ 0x01 ∷ 0x20 ∷ 0x28 ∷ 0x7F ∷ 0x98 ∷ 0x31 ∷ 0x25 ∷ 0xFF ∷ 0xFF ∷ 0xFE ∷ 0x25 ∷ 0x99 ∷ 0xD0 ∷ 0x84 ∷ 0x7F
    ∷ 0xFF ∷ 0xD5 ∷ 0x00 ∷ 0x0F ∷ 0xFF ∷ 0xFF ∷ 0xFF ∷ 0xFF ∷ 0xFF ∷ 0xFF ∷ 0xFF ∷ 0xFF ∷ 0xFF ∷ 0xFF ∷ 0xFF ∷ 0xFF ∷ 0xFF ∷ 0xFF ∷ 0xFF ∷ 0xFF
    ∷ 0xD2 ∷ 0x24 ∷ 0x83 ∷ 0x84 ∷ 0x00 ∷ []

abbrev pub printed : List ℕ
printed =
    ascii "refusal=0\nplace=0\nobjects=3\nbed=1\nisf=0\ndynamic=2\nblocks=2\nunknown=0\n"
    ++ (ascii "block=0,0,0\nblock=1,32,0\n"
    ++ (ascii "record=0,0,010032021f1f4000000000000100000000000000000000000000000000000000\n"
    ++ (ascii "record=0,1,01003e041f1f4000000000000100000000000000000000002000000000000000\n"
    ++ (ascii "record=1,0,010232200b0c4d00000000000100000000000000000000000000000000000000\n"
    ++ (ascii "record=1,1,010232200b0c4d00000000000100000000000000000000002000000000000000\n"
    ++ (ascii "record=2,0,000200001f1f4000000000000100000000000000000000000000000000000000\n"
    ++ ascii "record=2,1,0102000009083900000000000100000000000000000000002000000000000000\n"))))))

-- an element that passes the payload's end
abbrev pub cut : List ℕ
cut = 0x01 ∷ 0x07 ∷ 0xC1 ∷ []

-- an object element of one byte: the block offset factor, at bit 29, passes the element's end, bit 31
abbrev pub short : List ℕ
short = 0x01 ∷ 0x04 ∷ 0x40 ∷ 0x00 ∷ []

pub worked : (listing sample ≡ printed) × (listing cut ≡ ascii "refusal=2\nplace=18\nmissing=7\n") × (listing short ≡ ascii "refusal=8\nplace=29\n")
unfolding slice run number each from bit size_from missing_of housed reading status_idx object_basic_info differences coordinates position distance zone extent
    screen object_render_info additional_table_data object_info_block kind framed scenes fields pass_over read_known oa_element oa_element_md elements gain_of
    priority_of distance_of location_of volume_of resolve scenes_from scenes_of all_scenes object_data object_element oa_md_version object_count oa_element_count
    header object_audio_metadata_payload timing records tables bed_assignment bed_instances intermediate_spatial_format num_dynamic_objects reserved_data
    program_assignment labels bed_objects all_beds named agrees shares class_of plain_records record_bytes_of onto least_first block_time timed_bytes_of sample_offset block_update_info
    md_update_info offset_of ramp_of start_of timing_of trim_of configs_bytes_of trim_bytes_of decimal texts line block_lines record_lines share_lines table_lines listing_of
    zeros listing
worked = (refl, refl, refl)
