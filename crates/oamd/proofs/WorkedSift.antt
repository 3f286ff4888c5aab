-- Payloads with elements that are refused, worked by hand, bit by bit: which of them salvage drops. Of each, bits 0 to 9 are version 0, one object, dynamic ones only, no LFE and no
-- alternate ids; then the element count. An element is told by its first bit and the first behind it, then the place, the id and the number of its refusal.
use mathlib.Core.Path.{◌≡◌, refl}
use mathlib.Core.List.{List, [], ◌∷◌}
use Prim.Native.Nat.{ℕ, ◌*◌}
use lib.ListN.{length}
use Rattle.bits.specs.Language.{Res, ok, no, slice, number, run, bit, each, from}
use Rattle.bits.specs.Size.{size_from}
use Rattle.oamd.specs.declared.Gone.{Gone}
use Rattle.oamd.specs.Programme.{bed_assignment, bed_instances, intermediate_spatial_format, num_dynamic_objects, reserved_data, program_assignment, labels, bed_objects}
use Rattle.oamd.specs.Programme.{all_beds, named, agrees, shares, class_of}
use Rattle.oamd.specs.Timing.{sample_offset, block_update_info, md_update_info}
use Rattle.oamd.specs.Block.{status_idx, object_basic_info, position, distance, zone, extent, screen, object_render_info, additional_table_data, object_info_block}
use Rattle.oamd.specs.ObjectElement.{object_data, object_element}
use Rattle.oamd.specs.Extended.{obj_div_block, ext_prec_pos_block, extended_object_element}
use Rattle.oamd.specs.Meaning.{gain_of, priority_of, distance_of, location_of, volume_of, resolve, scenes_from, scenes_of, all_scenes}
use Rattle.oamd.specs.Trim.{trim_config, trim_element}
use Rattle.oamd.specs.Element.{kind, framed, State, scenes, fields, pass_over, read_known, oa_element, oa_element_md}
use Rattle.oamd.specs.Payload.{oa_md_version, object_count, oa_element_count, header}
use Rattle.oamd.specs.Sift.{Sieve, sift, sieve}

-- an object element from bit 14 on, one byte from 23 on; the sample offset code, 24 and 25, is 3; bit 31, which is 1, stands behind it
abbrev pub reserved : List ℕ
reserved = 0x01 ∷ 0x04 ∷ 0x40 ∷ 0xC1 ∷ []

-- the same, then an extended element from 31 on, then a trim element from 48 on
abbrev pub followed : List ℕ
followed = 0x01 ∷ 0x0C ∷ 0x40 ∷ 0xC0 ∷ 0xA0 ∷ 0x00 ∷ 0x21 ∷ 0x10 ∷ 0xC0 ∷ 0x00 ∷ []

-- an object element of one byte, 23 to 30: its first block offset factor would begin at its end, 31; there an unknown element, of id 9, begins
abbrev pub short : List ℕ
short = 0x01 ∷ 0x08 ∷ 0x40 ∷ 0x41 ∷ 0x20 ∷ 0x00 ∷ []

-- the object element of the first, and of a second element's id one bit
abbrev pub broken : List ℕ
broken = 0x01 ∷ 0x08 ∷ 0x40 ∷ 0xC0 ∷ []

-- a good object element, of three bytes, from 14 on, and the same again from 47 on
abbrev pub twice : List ℕ
twice = 0x01 ∷ 0x08 ∷ 0x48 ∷ 0x00 ∷ 0x06 ∷ 0x00 ∷ 0x24 ∷ 0x00 ∷ 0x03 ∷ 0x00 ∷ []

-- the object element of the first, then the good one from 31 on, then an extended one, of one byte, from 64 on
abbrev pub better : List ℕ
better = 0x01 ∷ 0x0C ∷ 0x40 ∷ 0xC0 ∷ 0x24 ∷ 0x00 ∷ 0x03 ∷ 0x00 ∷ 0x50 ∷ 0x00 ∷ 0x00 ∷ []

-- what is dropped, and the refusal that ends the pass, if one does
abbrev pub gone_in : Res Sieve → List Gone
gone_in (ok x to) = x.sifting.gone
gone_in (no r pl m) = []

abbrev pub end_of : Res State → List ℕ
end_of (ok st to) = []
end_of (no r pl m) = r ∷ pl ∷ m ∷ []

abbrev pub end_in : Res Sieve → List ℕ
end_in (ok x to) = end_of x.sifting.last
end_in (no r pl m) = r ∷ pl ∷ m ∷ []

abbrev pub told : ℕ → ℕ → ℕ → ℕ → ℕ → Gone
told first behind place id refusal = record { from = record { 0 = first }; to = record { 0 = behind }; place = record { 0 = place }; id = id; refusal = refusal }

pub record Drops (s : List ℕ) (gone : List Gone) (end : List ℕ) : Type 0 where
  pub elements : gone_in (sieve (bit s) (8 * length s)) ≡ gone
  pub ends : end_in (sieve (bit s) (8 * length s)) ≡ end

pub worked :
    Drops reserved (told 14 31 24 1 5 ∷ []) []
    × Drops followed (told 14 31 24 1 5 ∷ (told 31 48 31 5 7 ∷ [])) []
    × Drops short (told 14 31 31 1 8 ∷ []) []
    × Drops broken (told 14 31 24 1 5 ∷ []) (2 ∷ 31 ∷ 3 ∷ [])
    × Drops twice (told 47 80 47 1 6 ∷ []) []
    × Drops better (told 14 31 24 1 5 ∷ []) []
unfolding sift sieve size_from slice number run bit each from bed_assignment bed_instances intermediate_spatial_format num_dynamic_objects reserved_data program_assignment labels bed_objects
    all_beds named agrees shares class_of sample_offset block_update_info md_update_info status_idx object_basic_info position distance zone extent screen object_render_info additional_table_data object_info_block object_data object_element
    obj_div_block ext_prec_pos_block extended_object_element gain_of priority_of distance_of location_of volume_of resolve scenes_from scenes_of all_scenes trim_config trim_element kind framed scenes fields pass_over
    read_known oa_element oa_element_md oa_md_version object_count oa_element_count header
worked = (
  record { elements = refl; ends = refl },
  record { elements = refl; ends = refl },
  record { elements = refl; ends = refl },
  record { elements = refl; ends = refl },
  record { elements = refl; ends = refl },
  record { elements = refl; ends = refl },
)
