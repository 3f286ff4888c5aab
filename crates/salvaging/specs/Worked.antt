-- Payloads worked by hand, bit by bit (most of them stand in oamd/proofs/WorkedSift.antt), and what salvage answers of them.
use Rattle.std.specs.Prelude.{◌≡◌, refl, List, [], ◌∷◌, ℕ, replicate}
use Rattle.bits.specs.Language.{slice, number, run, bit, each, from}
use Rattle.bits.specs.Size.{size_from}
use Rattle.bits.specs.Writes.{to_bits, pack, to_bytes}
use Rattle.oamd.proofs.WorkedSift.{reserved, followed, short, broken, twice, better, told}
use Rattle.oamd.specs.Programme.{bed_assignment, bed_instances, intermediate_spatial_format, num_dynamic_objects, reserved_data, program_assignment, labels, bed_objects, all_beds, named, agrees, shares, class_of}
use Rattle.oamd.specs.Block.{status_idx, object_basic_info, position, distance, zone, extent, screen, object_render_info, additional_table_data, object_info_block}
use Rattle.oamd.specs.Timing.{sample_offset, block_update_info, md_update_info}
use Rattle.oamd.specs.Trim.{trim_config, trim_element}
use Rattle.oamd.specs.ObjectElement.{object_data, object_element}
use Rattle.oamd.specs.Extended.{obj_div_block, ext_prec_pos_block, extended_object_element}
use Rattle.oamd.specs.Record.{onto}
use Rattle.oamd.specs.Element.{kind, framed, scenes, fields, pass_over, read_known, oa_element, oa_element_md, elements}
use Rattle.oamd.specs.Payload.{oa_md_version, object_count, oa_element_count, header}
use Rattle.oamd.specs.Sift.{sift, sieve}
use Rattle.oamd.specs.Answer.{missing_of}
use Rattle.demands.specs.Assembly.{count_bits}
use Rattle.salvaging.specs.declared.Drop.{Drop}
use Rattle.salvaging.specs.Salvage.{without, left, roomed, remaining, salvaged_to, not_salvaged, salvaging}

-- a buffer of n bytes, each 9
abbrev room : ℕ → List ℕ
room n = replicate n 9

-- 15 elements, the first an object element with a reserved sample offset code, the others unknown, of id 9 and one byte each: the count takes 9 bits, and what is left 4
abbrev fifteen : List ℕ
fifteen =
    0x01 ∷ 0x3C ∷ 0x02 ∷ 0x06 ∷ 0x09 ∷ 0x00 ∷ 0x04 ∷ 0x80 ∷ 0x02 ∷ 0x40 ∷ 0x01 ∷ 0x20 ∷ 0x00 ∷ 0x90 ∷ 0x00 ∷ 0x48 ∷ 0x00 ∷ 0x24
    ∷ 0x00 ∷ 0x12 ∷ 0x00 ∷ 0x09 ∷ 0x00 ∷ 0x04 ∷ 0x80 ∷ 0x02 ∷ 0x40 ∷ 0x01 ∷ 0x20 ∷ 0x00 ∷ 0x90 ∷ 0x00 ∷ 0x48 ∷ 0x00 ∷ 0x00 ∷ []

abbrev fourteen : List ℕ
fourteen =
    0x01 ∷ 0x3A ∷ 0x40 ∷ 0x01 ∷ 0x20 ∷ 0x00 ∷ 0x90 ∷ 0x00 ∷ 0x48 ∷ 0x00 ∷ 0x24 ∷ 0x00 ∷ 0x12 ∷ 0x00 ∷ 0x09 ∷ 0x00 ∷ 0x04
    ∷ 0x80 ∷ 0x02 ∷ 0x40 ∷ 0x01 ∷ 0x20 ∷ 0x00 ∷ 0x90 ∷ 0x00 ∷ 0x48 ∷ 0x00 ∷ 0x24 ∷ 0x00 ∷ 0x12 ∷ 0x00 ∷ 0x00 ∷ 0x00 ∷ []

-- an element that was dropped, as it is reported
abbrev drop : ℕ → ℕ → ℕ → Drop
drop place id refusal = record { place = record { 0 = place }; id = id; refusal = refusal }

-- Two answers with all that they say, and the buffer behind each: of the first, what is left and two bytes that stay; of the second, which is refused, all that was there.
pub written_out :
    (salvaging followed (room 8) ≡ record {
      answer = record {
        place = 0;
        missing = 0;
        length = record { 0 = 6 };
        refusal = 0;
        drops = 2;
        dropped = drop 24 1 5 ∷ (drop 31 5 7 ∷ replicate 44 (drop 0 0 0));
      };
      out = 0x01 ∷ 0x04 ∷ 0x84 ∷ 0x43 ∷ 0x00 ∷ 0x00 ∷ 9 ∷ 9 ∷ [];
    })
    × (salvaging broken (room 3) ≡ record {
      answer = record { place = 31; missing = 3; length = record { 0 = 0 }; refusal = 2; drops = 0; dropped = replicate 46 (drop 0 0 0) };
      out = 9 ∷ 9 ∷ 9 ∷ [];
    })
unfolding salvaging sieve sift left without remaining roomed missing_of onto to_bits pack to_bytes count_bits size_from slice number run bit each from bed_assignment bed_instances intermediate_spatial_format num_dynamic_objects reserved_data program_assignment labels bed_objects all_beds named agrees shares class_of kind framed scenes fields pass_over read_known oa_element oa_element_md elements oa_md_version object_count oa_element_count header sample_offset block_update_info md_update_info status_idx object_basic_info position distance zone extent screen object_render_info additional_table_data object_info_block object_data object_element obj_div_block ext_prec_pos_block extended_object_element trim_config trim_element
written_out = (refl, refl)

pub worked :
    (salvaging reserved (room 4) ≡ salvaged_to (room 4) (told 14 31 24 1 5 ∷ []) (0x01 ∷ 0x02 ∷ []))
    × (salvaging followed (room 8) ≡ salvaged_to (room 8) (told 14 31 24 1 5 ∷ (told 31 48 31 5 7 ∷ [])) (0x01 ∷ 0x04 ∷ 0x84 ∷ 0x43 ∷ 0x00 ∷ 0x00 ∷ []))
    × (salvaging followed (room 5) ≡ not_salvaged (room 5) 11 6 0)
    × (salvaging short (room 6) ≡ salvaged_to (room 6) (told 14 31 31 1 8 ∷ []) (0x01 ∷ 0x06 ∷ 0x40 ∷ 0x00 ∷ []))
    × (salvaging broken (room 6) ≡ not_salvaged (room 6) 2 31 3)
    × (salvaging twice (room 6) ≡ salvaged_to (room 6) (told 47 80 47 1 6 ∷ []) (0x01 ∷ 0x04 ∷ 0x48 ∷ 0x00 ∷ 0x06 ∷ 0x00 ∷ []))
    × (salvaging better (room 9) ≡ salvaged_to (room 9) (told 14 31 24 1 5 ∷ []) (0x01 ∷ 0x08 ∷ 0x48 ∷ 0x00 ∷ 0x06 ∷ 0x00 ∷ 0xA0 ∷ 0x00 ∷ 0x00 ∷ []))
    × (salvaging fifteen (room 33) ≡ salvaged_to (room 33) (told 19 36 29 1 5 ∷ []) fourteen)
unfolding salvaging sieve sift left without remaining roomed missing_of onto to_bits pack to_bytes count_bits size_from slice number run bit each from bed_assignment bed_instances intermediate_spatial_format num_dynamic_objects reserved_data program_assignment labels bed_objects all_beds named agrees shares class_of kind framed scenes fields pass_over read_known oa_element oa_element_md elements oa_md_version object_count oa_element_count header sample_offset block_update_info md_update_info status_idx object_basic_info position distance zone extent screen object_render_info additional_table_data object_info_block object_data object_element obj_div_block ext_prec_pos_block extended_object_element trim_config trim_element
worked = (refl, refl, refl, refl, refl, refl, refl, refl)
