-- A segment of three entries, as its text and read back; what follows it, which goes by the update before; and texts with a bad line: worked by hand, shown by computation.
use mathlib.Core.Path.{◌≡◌, refl}
use mathlib.Core.List.{List, [], ◌∷◌, ◌++◌}
use Prim.Native.Nat.{ℕ}
use lib.ListN.{length}
use Rattle.bits.specs.Language.{slice, run, number, each, from, bit}
use Rattle.bits.specs.Size.{size_from}
use Rattle.oamd.specs.Answer.{missing_of, housed, reading}
use Rattle.oamd.specs.Batch.{entry}
use Rattle.oamd.specs.Block.{status_idx, object_basic_info, differences, coordinates, position, distance, zone, extent, screen, object_render_info, additional_table_data, object_info_block}
use Rattle.oamd.specs.Element.{kind, framed, scenes, fields, pass_over, read_known, oa_element, oa_element_md, elements}
use Rattle.oamd.specs.LeastFirst.{least_first}
use Rattle.oamd.specs.Meaning.{gain_of, priority_of, distance_of, location_of, volume_of, resolve, scenes_from, scenes_of, all_scenes}
use Rattle.oamd.specs.ObjectElement.{object_data, object_element}
use Rattle.oamd.specs.Payload.{oa_md_version, object_count, oa_element_count, header, object_audio_metadata_payload, timing, records, tables}
use Rattle.oamd.specs.Programme.{bed_assignment, bed_instances, intermediate_spatial_format, num_dynamic_objects, reserved_data, program_assignment, labels, bed_objects, all_beds}
use Rattle.oamd.specs.Programme.{named, agrees, shares, class_of}
use Rattle.oamd.specs.Record.{plain_records, record_bytes_of, onto}
use Rattle.oamd.specs.Time.{block_time, timed_bytes_of}
use Rattle.oamd.specs.Timing.{sample_offset, block_update_info, md_update_info, offset_of, ramp_of, start_of, timing_of}
use Rattle.oamd.specs.Trim.{trim_of, configs_bytes_of, trim_bytes_of}
use Rattle.keys.specs.Names.{ascii}
use Rattle.text.specs.Numerals.{decimal}
use Rattle.text.specs.Lines.{texts}
use Rattle.catalogue.specs.Fields.{field_of}
use Rattle.catalogue.specs.Fields.{fields as fieldsTable}
use Rattle.catalogue.specs.Sheets.{Sheet, rows_behind, rows_after, zeros, sheet_of, sheets_of}
use Rattle.catalogue.specs.Text.{refused_line, frame_line, update_line, changes, entry_line, entry_lines, update_lines, sheet_text, catalogue}
use Rattle.catalogue.specs.Scan.{Got, got, bad, after, digits, numeral}
use Rattle.catalogue.specs.Scan.{run as scan}
use Rattle.catalogue.specs.Back.{field_back, fields_back, entry_back, entries_back, rows_here, update_back, updates_back, refused_back, accepted_back, sheet_back, sheets_back, back}

-- samples/three-objects.oamd, and behind it a payload of one object without blocks
abbrev store : List ℕ
store =
    0x05 ∷ 0x84 ∷ 0x47 ∷ 0x00 ∷ 0x40 ∷ 0x01 ∷ 0x20 ∷ 0x28 ∷ 0x7F ∷ 0x98 ∷ 0x31 ∷ 0x25 ∷ 0xFF ∷ 0xFF ∷ 0xFE ∷ 0x25 ∷ 0x99 ∷ 0xD0 ∷ 0x84 ∷ 0x7F
    ∷ 0xFF ∷ 0xD5 ∷ 0x00 ∷ 0x0F ∷ 0xFF ∷ 0xFF ∷ 0xFF ∷ 0xFF ∷ 0xFF ∷ 0xFF ∷ 0xFF ∷ 0xFF ∷ 0xFF ∷ 0xFF ∷ 0xFF ∷ 0xFF ∷ 0xFF ∷ 0xFF ∷ 0xFF ∷ 0xFF
    ∷ 0xD2 ∷ 0x24 ∷ 0x83 ∷ 0x84 ∷ 0x00 ∷ 0x01 ∷ 0x07 ∷ 0xC1 ∷ 0x00 ∷ []

abbrev sheets : List Sheet
sheets = sheets_of store (0 ∷ 45 ∷ 45 ∷ []) (45 ∷ 3 ∷ 4 ∷ []) (7 ∷ 8 ∷ 9 ∷ [])

-- and the sample once more
abbrev again : List Sheet
again = sheets_of store (0 ∷ []) (45 ∷ []) (10 ∷ [])

-- what stands behind z in the first record of each of the three objects
abbrev still : List ℕ
still =
    ascii ",distance=0,width=0,depth=0,height=0,zone=0,elevation=1,screen=0,screen_factor=0,screen_depth=0,snap=0"
    ++ ascii ",divergence=0,divergence_mode=0,divergence_value=0,precise=0,precise_x=0,precise_y=0,precise_z=0\n"

-- lines 1 to 4, line 5, which is the last of the first update, and a text behind them
abbrev behind_four : List ℕ → List ℕ
behind_four rest =
    ascii "frame=7,objects=3,blocks=2\nstart=0,ramp=0\n"
    ++ (ascii "object=0,active=1,class=0,gain=50,priority=2,x=31,y=31,z=64" ++ (still
    ++ (ascii "object=1,active=1,class=2,gain=50,priority=32,x=11,y=12,z=77" ++ (still ++ rest))))

abbrev behind_five : List ℕ → List ℕ
behind_five rest = behind_four (ascii "object=2,active=0,class=2,gain=0,priority=0,x=31,y=31,z=64" ++ (still ++ rest))

-- line 6, and what stands for the others
abbrev with_lines : List ℕ → List ℕ
with_lines rest = behind_five (ascii "start=32,ramp=0\n" ++ rest)

-- lines 8 to 10
abbrev last_lines : List ℕ
last_lines = ascii "object=2,active=1,x=9,y=8,z=57\nframe=8,refusal=2\nframe=9,objects=1,blocks=0\n"

abbrev text : List ℕ
text = with_lines (ascii "object=0,gain=62,priority=4\n" ++ last_lines)

-- The frames between have no update, so the sample's first update is held against its own last: it lists what the second one changed, back again.
abbrev text_again : List ℕ
text_again =
    ascii "frame=10,objects=3,blocks=2\nstart=0,ramp=0\nobject=0,gain=50,priority=2\nobject=2,active=0,x=31,y=31,z=64\n"
    ++ ascii "start=32,ramp=0\nobject=0,gain=62,priority=4\nobject=2,active=1,x=9,y=8,z=57\n"

pub text-worked : (catalogue [] sheets ≡ text) × (length text ≡ 936) × (catalogue (rows_after [] sheets) again ≡ text_again)
unfolding slice run number each from bit size_from missing_of housed reading entry status_idx object_basic_info differences coordinates position distance zone extent
    screen object_render_info additional_table_data object_info_block kind framed scenes fields pass_over read_known oa_element oa_element_md elements gain_of
    priority_of distance_of location_of volume_of resolve scenes_from scenes_of all_scenes object_data object_element oa_md_version object_count oa_element_count
    header object_audio_metadata_payload timing records tables bed_assignment bed_instances intermediate_spatial_format num_dynamic_objects reserved_data
    program_assignment labels bed_objects all_beds named agrees shares class_of plain_records record_bytes_of onto least_first block_time timed_bytes_of sample_offset block_update_info
    md_update_info offset_of ramp_of start_of timing_of trim_of configs_bytes_of trim_bytes_of decimal texts fieldsTable field_of rows_behind rows_after zeros sheet_of sheets_of
    refused_line frame_line update_line changes entry_line entry_lines update_lines sheet_text catalogue
text-worked = (refl, refl, refl)

pub back-worked : (back [] text ≡ got sheets 11 []) × (back (rows_after [] sheets) text_again ≡ got again 8 [])
unfolding slice run number each from bit size_from missing_of housed reading entry status_idx object_basic_info differences coordinates position distance zone extent
    screen object_render_info additional_table_data object_info_block kind framed scenes fields pass_over read_known oa_element oa_element_md elements gain_of
    priority_of distance_of location_of volume_of resolve scenes_from scenes_of all_scenes object_data object_element oa_md_version object_count oa_element_count
    header object_audio_metadata_payload timing records tables bed_assignment bed_instances intermediate_spatial_format num_dynamic_objects reserved_data
    program_assignment labels bed_objects all_beds named agrees shares class_of plain_records record_bytes_of onto least_first block_time timed_bytes_of sample_offset block_update_info
    md_update_info offset_of ramp_of start_of timing_of trim_of configs_bytes_of trim_bytes_of decimal texts fieldsTable field_of rows_behind rows_after zeros sheet_of sheets_of
    after digits numeral scan field_back fields_back entry_back entries_back rows_here update_back updates_back refused_back accepted_back sheet_back sheets_back back
back-worked = (refl, refl)

-- the line at which a text is bad, or 0
abbrev line_of : Got (List Sheet) → ℕ
line_of (got xs n rest) = 0
line_of (bad n) = n

abbrev bad_line : List ℕ → ℕ
bad_line s = line_of (back [] s)

-- Nothing is fine. A line without its end, one too many, none at all; a line left out, the end too early; the same value again, one that cannot be, a leading zero, fields out of order, an entry that
-- lists nothing, an object out of order, one that there is not; a refusal that no frame has
pub bad-worked : (bad_line [] ≡ 0) × (bad_line (ascii "\n") ≡ 1) × (bad_line (text ++ ascii "\n") ≡ 11) × (bad_line (text ++ ascii "frame=1,refusal=2") ≡ 11)
    × (bad_line (behind_four (ascii "start=32,ramp=0\n")) ≡ 5) × (bad_line (behind_five []) ≡ 6) × (bad_line (with_lines []) ≡ 0)
    × (bad_line (with_lines (ascii "object=0,gain=50,priority=4\n" ++ last_lines)) ≡ 7) × (bad_line (with_lines (ascii "object=0,gain=66,priority=4\n" ++ last_lines)) ≡ 7)
    × (bad_line (with_lines (ascii "object=0,gain=062,priority=4\n" ++ last_lines)) ≡ 7) × (bad_line (with_lines (ascii "object=0,priority=4,gain=62\n" ++ last_lines)) ≡ 7)
    × (bad_line (with_lines (ascii "object=0\n" ++ last_lines)) ≡ 7) × (bad_line (with_lines (ascii "object=2,x=9\nobject=0,gain=62\n")) ≡ 8)
    × (bad_line (with_lines (ascii "object=3,x=9\n")) ≡ 7) × (bad_line (ascii "frame=8,refusal=9\n") ≡ 1) × (bad_line (ascii "frame=8,refusal=12\n") ≡ 0)
unfolding slice run number each from bit size_from missing_of housed reading entry status_idx object_basic_info differences coordinates position distance zone extent
    screen object_render_info additional_table_data object_info_block kind framed scenes fields pass_over read_known oa_element oa_element_md elements gain_of
    priority_of distance_of location_of volume_of resolve scenes_from scenes_of all_scenes object_data object_element oa_md_version object_count oa_element_count
    header object_audio_metadata_payload timing records tables bed_assignment bed_instances intermediate_spatial_format num_dynamic_objects reserved_data
    program_assignment labels bed_objects all_beds named agrees shares class_of plain_records record_bytes_of onto least_first block_time timed_bytes_of sample_offset block_update_info
    md_update_info offset_of ramp_of start_of timing_of trim_of configs_bytes_of trim_bytes_of decimal texts fieldsTable field_of rows_behind rows_after zeros sheet_of sheets_of
    after digits numeral scan field_back fields_back entry_back entries_back rows_here update_back updates_back refused_back accepted_back sheet_back sheets_back back
bad-worked = (refl, refl, refl, refl, refl, refl, refl, refl, refl, refl, refl, refl, refl, refl, refl, refl)
