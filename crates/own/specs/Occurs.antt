-- The premises can be met, and the exception is needed: pairs of payloads, by their bytes, in which the gain of an object behind another changes with that one. Shown by computation.
use Rattle.std.specs.Prelude.{◌≡◌, refl, List, [], ◌∷◌, ℕ, zero, suc, ◌<◌, get_or, replicate}
use Rattle.std.proofs.Common.{arith}
use Rattle.bits.specs.Language.{Res, ok, no, slice, number, run, bit, each, from}
use Rattle.bits.specs.Size.{size_from}
use Rattle.oamd.specs.Programme.{bed_assignment, bed_instances, intermediate_spatial_format, num_dynamic_objects, reserved_data, program_assignment, labels, bed_objects}
use Rattle.oamd.specs.Programme.{all_beds, named, agrees, shares, class_of}
use Rattle.oamd.specs.Timing.{sample_offset, block_update_info, md_update_info, offset_of, ramp_of, start_of, timing_of}
use Rattle.oamd.specs.Block.{status_idx, object_basic_info, differences, coordinates, position, distance, zone, extent, screen, object_render_info, additional_table_data, object_info_block}
use Rattle.oamd.specs.ObjectElement.{object_data, object_element}
use Rattle.oamd.specs.Extended.{obj_div_block, ext_prec_pos_block, extended_object_element}
use Rattle.oamd.specs.Meaning.{gain_of, priority_of, distance_of, location_of, volume_of, resolve, scenes_from, scenes_of, all_scenes}
use Rattle.oamd.specs.Record.{plain_records, extended_records, record_bytes_of, onto}
use Rattle.oamd.specs.LeastFirst.{least_first}
use Rattle.oamd.specs.Time.{block_time, timed_bytes_of}
use Rattle.oamd.specs.Trim.{trim_config, trim_element, trim_of, configs_bytes_of, trim_bytes_of}
use Rattle.oamd.specs.Element.{kind, framed, nothing, scenes, fields, pass_over, read_known, oa_element, oa_element_md, elements}
use Rattle.oamd.specs.Payload.{oa_md_version, object_count, oa_element_count, header, Payload, object_audio_metadata_payload, timing, records, tables}
use Rattle.oamd.specs.Answer.{no_programme, missing_of, housed, reading}
use Rattle.demands.specs.Terms.{parsed, tables_of}
use Rattle.sources.specs.Sources.{gain_source}
use Rattle.sources.specs.Chain.{objects_in, blocks_in, block_at}
use Rattle.sources.specs.Given.{gain_byte, divergence_at, precise_at}
use Rattle.sources.specs.Lemmas.BySource.{Below, all, ◌▸◌, listed}
use Rattle.own.specs.Own.{Within, TrimDiffer, Differ, Edit, LeadsTo, here, from-object, from_block, byte_of}

-- a payload as read, and where reading ended
abbrev pub payload_of : Res Payload → Payload
payload_of (ok q to) = q
payload_of (no r pl m) = record { programme = no_programme; known = nothing; unknown = 0 }

abbrev pub end_of : Res Payload → ℕ
end_of (ok q to) = to
end_of (no r pl m) = 0

-- room for the records of three objects and two blocks, and for their trim table
abbrev pub room : List ℕ
room = replicate 192 0

abbrev pub trim_room : List ℕ
trim_room = replicate 97 0

-- s and s' are edits of one another in object j alone; block b of object i behind it has the gain g in one and g' in the other
pub record Occurs (s s' : List ℕ) (j i b g g' : ℕ) : Type 0 where
  pub q : Payload
  pub q' : Payload
  pub edit : Edit 0 s s' room trim_room q q' j
  pub within : Within q i b
  pub behind : j < i
  pub leads : LeadsTo (block_at q) j i b
  pub gain : byte_of (blocks_in q) i b gain_byte (reading 0 s room trim_room).buffer ≡ g
  pub gain' : byte_of (blocks_in q) i b gain_byte (reading 0 s' room trim_room).buffer ≡ g'

-- ---- the payloads, each of three objects, of which object 1 is edited; object 2 has gain index 3

-- beds, one block: the gain bits of object 1 are 20 and 30
abbrev pub beds : List ℕ
beds = 0x04 ∷ 0x14 ∷ 0xf0 ∷ 0x8a ∷ 0x00 ∷ 0x00 ∷ 0x89 ∷ 0x29 ∷ 0x38 ∷ 0x00 ∷ []

abbrev pub beds' : List ℕ
beds' = 0x04 ∷ 0x14 ∷ 0xf0 ∷ 0x8a ∷ 0x00 ∷ 0x00 ∷ 0x89 ∷ 0x3d ∷ 0x38 ∷ 0x00 ∷ []

-- dynamic objects, one block: x of object 1 differs, too
abbrev pub dynamic : List ℕ
dynamic = 0x05 ∷ 0x04 ∷ 0x78 ∷ 0x00 ∷ 0x04 ∷ 0x4a ∷ 0x2a ∷ 0x21 ∷ 0x02 ∷ 0x52 ∷ 0xa2 ∷ 0x92 ∷ 0x08 ∷ 0x1d ∷ 0xe7 ∷ 0xa6 ∷ 0x10 ∷ 0x00 ∷ []

abbrev pub dynamic' : List ℕ
dynamic' = 0x05 ∷ 0x04 ∷ 0x78 ∷ 0x00 ∷ 0x04 ∷ 0x4a ∷ 0x2a ∷ 0x21 ∷ 0x02 ∷ 0x7a ∷ 0xaa ∷ 0x92 ∷ 0x08 ∷ 0x1d ∷ 0xe7 ∷ 0xa6 ∷ 0x10 ∷ 0x00 ∷ []

-- dynamic objects, two blocks, of which object 2 has the second by reuse; an extended and a trim element. Object 1 gets another gain, priority, x, its first divergence and its trim flag; the
-- sample offset of 16 is coded in two ways, and the elements stand in two orders
abbrev pub reused : List ℕ
reused =
    0x05 ∷ 0x0c ∷ 0x42 ∷ 0x22 ∷ 0x90 ∷ 0x00 ∷ 0x58 ∷ 0x94 ∷ 0xa5 ∷ 0x42 ∷ 0x05 ∷ 0x12 ∷ 0x9a ∷ 0x14 ∷ 0xa8 ∷ 0x40 ∷ 0xa3 ∷ 0xbc ∷ 0xa5 ∷ 0x42 ∷ 0x05 ∷ 0x05 ∷ 0x00 ∷ 0x01
    ∷ 0x08 ∷ 0x84 ∷ 0x80 ∷ []

abbrev pub reused' : List ℕ
reused' =
    0x05 ∷ 0x0c ∷ 0x84 ∷ 0x42 ∷ 0xc0 ∷ 0x21 ∷ 0x32 ∷ 0x81 ∷ 0x00 ∷ 0x05 ∷ 0x89 ∷ 0x4a ∷ 0x54 ∷ 0x20 ∷ 0x51 ∷ 0x3c ∷ 0x3d ∷ 0x2a ∷ 0x54 ∷ 0x20 ∷ 0x26 ∷ 0x3b ∷ 0xca ∷ 0x54
    ∷ 0x20 ∷ 0x50 ∷ 0x02 ∷ 0x91 ∷ 0x34 ∷ 0x20 ∷ 0x00 ∷ []

-- ---- what differs, block by block

-- what is coded for block b of object i is the same
abbrev Alike : Payload → Payload → ℕ → ℕ → Type 0
Alike q q' i b = (block_at q i b ≡ block_at q' i b) × (divergence_at q i b ≡ divergence_at q' i b) × (precise_at q i b ≡ precise_at q' i b)

all-but_1 : (q q' : Payload) → objects_in q ≡ 3 → Below (Alike q q' 0) (blocks_in q) → Below (Alike q q' 2) (blocks_in q) → (i b : ℕ) → Within q i b → (i ≡ 1 → ⊥) → Alike q q' i b
all-but_1 q q' three first last zero b w other = listed first b w.block
all-but_1 q q' three first last (suc zero) b w other = absurd (other refl)
all-but_1 q q' three first last (suc (suc zero)) b w other = listed last b w.block
all-but_1 q q' three first last (suc (suc (suc i))) b w other = absurd (omega (arith, w.object))

differ_in_1 : (q q' : Payload) → objects_in q ≡ 3 → Below (Alike q q' 0) (blocks_in q) → Below (Alike q q' 2) (blocks_in q)
    → TrimDiffer 1 (tables_of q).trim (tables_of q').trim → Differ 1 q q'
differ_in_1 q q' three first last trim = record {
  blocks = λ i b w other. (all-but_1 q q' three first last i b w other).0;
  divergence = λ i b w other. (all-but_1 q q' three first last i b w other).1;
  precise = λ i b w other. (all-but_1 q q' three first last i b w other).2;
  trim = trim;
}

-- entries that are the same but for entry 1
but-entry_1 : (x y y' : ℕ) (zs : List ℕ) (i : ℕ) → (i ≡ 1 → ⊥) → get_or (x ∷ y ∷ zs) i 0 ≡ get_or (x ∷ y' ∷ zs) i 0
but-entry_1 x y y' zs zero other = refl
but-entry_1 x y y' zs (suc zero) other = absurd (other refl)
but-entry_1 x y y' zs (suc (suc i)) other = refl

-- ---- shown

pub occurs : Occurs beds beds' 1 2 0 44 34 × Occurs dynamic dynamic' 1 2 0 44 34 × Occurs reused reused' 1 2 1 44 34
unfolding slice number run bit each from size_from bed_assignment bed_instances intermediate_spatial_format num_dynamic_objects reserved_data program_assignment labels bed_objects
    all_beds named agrees shares class_of sample_offset block_update_info md_update_info offset_of ramp_of start_of timing_of status_idx object_basic_info differences coordinates position
    distance zone extent screen object_render_info additional_table_data object_info_block object_data object_element obj_div_block ext_prec_pos_block extended_object_element gain_of
    priority_of distance_of location_of volume_of resolve scenes_from scenes_of all_scenes plain_records extended_records record_bytes_of trim_config trim_element trim_of kind framed scenes fields
    pass_over read_known oa_element oa_element_md elements oa_md_version object_count oa_element_count header object_audio_metadata_payload timing records tables missing_of
    gain_source block_at divergence_at precise_at onto least_first block_time timed_bytes_of configs_bytes_of trim_bytes_of housed reading
occurs = (
  record {
    q = payload_of (parsed beds);
    q' = payload_of (parsed beds');
    edit = record {
      to = end_of (parsed beds);
      to' = end_of (parsed beds');
      read = refl;
      read' = refl;
      accepted = refl;
      accepted' = refl;
      programme = refl;
      timed = refl;
      present = refl;
      differ = differ_in_1 _ _ refl ((refl, refl, refl) ▸ all) ((refl, refl, refl) ▸ all)
          (record { warp = refl; mode = refl; configs = refl; per-object = refl; disabled = but-entry_1 0 0 0 (0 ∷ []) });
    };
    within = record { object = omega arith; block = omega arith };
    behind = omega arith;
    leads = from-object 1 0 refl (here 0);
    gain = refl;
    gain' = refl;
  },
  record {
    q = payload_of (parsed dynamic);
    q' = payload_of (parsed dynamic');
    edit = record {
      to = end_of (parsed dynamic);
      to' = end_of (parsed dynamic');
      read = refl;
      read' = refl;
      accepted = refl;
      accepted' = refl;
      programme = refl;
      timed = refl;
      present = refl;
      differ = differ_in_1 _ _ refl ((refl, refl, refl) ▸ all) ((refl, refl, refl) ▸ all)
          (record { warp = refl; mode = refl; configs = refl; per-object = refl; disabled = but-entry_1 0 0 0 (0 ∷ []) });
    };
    within = record { object = omega arith; block = omega arith };
    behind = omega arith;
    leads = from-object 1 0 refl (here 0);
    gain = refl;
    gain' = refl;
  },
  record {
    q = payload_of (parsed reused);
    q' = payload_of (parsed reused');
    edit = record {
      to = end_of (parsed reused);
      to' = end_of (parsed reused');
      read = refl;
      read' = refl;
      accepted = refl;
      accepted' = refl;
      programme = refl;
      timed = refl;
      present = refl;
      differ = differ_in_1 _ _ refl ((refl, refl, refl) ▸ (refl, refl, refl) ▸ all) ((refl, refl, refl) ▸ (refl, refl, refl) ▸ all)
          (record { warp = refl; mode = refl; configs = refl; per-object = refl; disabled = but-entry_1 0 0 1 (1 ∷ []) });
    };
    within = record { object = omega arith; block = omega arith };
    behind = omega arith;
    leads = from_block 2 0 refl (from-object 1 0 refl (here 0));
    gain = refl;
    gain' = refl;
  },
)
