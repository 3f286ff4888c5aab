-- Which readers of the payload are plain: they have no declared end, and refuse with numbers of which Q holds.
use Rattle.std.specs.Prelude.{Bool, List}
use Prim.Native.Nat.{ℕ, zero, suc}
use Rattle.bits.specs.Language.{P}
use Rattle.bits.specs.Reached.{Plain, marked, giving, reads, both}
use Rattle.bits.specs.ReachedLaws.{plainly}
use Rattle.bits.specs.Size.{size_from}
use Rattle.oamd.specs.declared.Kind.{Kind}
use Rattle.oamd.specs.declared.Kind.TheVariants.{Unknown, Object, Trim, Extended}
use Rattle.oamd.specs.declared.Programme.{Programme}
use Rattle.oamd.specs.declared.Shares.{Shares}
use Rattle.oamd.specs.declared.Status.{Status}
use Rattle.oamd.specs.declared.Status.TheVariants.{Default, Full, Reuse, Mixed}
use Rattle.oamd.specs.Reserved.{Field, IntermediateSpatialFormatIdx, SampleOffsetCode, ZoneConstraintsIdx, ObjectSizeIdx, WarpMode, GlobalTrimMode, TrimSurround, ObjectDivMode}
use Rattle.oamd.specs.Reserved.{ObjectDivCode, unreserved}
use Rattle.oamd.specs.Programme.{bed_assignment, bed_instances, intermediate_spatial_format, num_dynamic_objects, reserved_data, program_assignment}
use Rattle.oamd.specs.Timing.{sample_offset, block_update_info, md_update_info}
use Rattle.oamd.specs.Block.{status_idx, parts_of, object_basic_info, differences, coordinates, position, distance, zone, extent, screen, object_render_info, additional_table_data, object_info_block}
use Rattle.oamd.specs.ObjectElement.{object_data, object_element}
use Rattle.oamd.specs.Extended.{obj_div_block, ext_prec_pos_block, extended_object_element}
use Rattle.oamd.specs.Trim.{trim_config, trim_element}
use Rattle.oamd.specs.Element.{Known, fields, State, elements, oa_element_md}
use Rattle.oamd.specs.Payload.{oa_md_version, object_count, oa_element_count, header, object_audio_metadata_payload}

module _ (M : (A : Type 0) → P A → Type 1) (Q : ℕ → Type 0) where
  -- ---- fields alone

  bed-plain : Plain M Q _ bed_assignment
  unfolding bed_assignment
  bed-plain = search plainly depth 12

  beds-plain : (content : ℕ) → Plain M Q _ (bed_instances content)
  unfolding bed_instances
  beds-plain content = search (plainly, bed-plain) depth 12

  dynamics-plain : (content : ℕ) → Plain M Q _ (num_dynamic_objects content)
  unfolding num_dynamic_objects
  dynamics-plain content = search plainly depth 12

  data-plain : (content : ℕ) → Plain M Q _ (reserved_data content)
  unfolding reserved_data
  data-plain content = search plainly depth 12

  update-plain : Plain M Q _ block_update_info
  unfolding block_update_info
  update-plain = search plainly depth 12

  status-plain : (none first : Bool) → Plain M Q _ (status_idx none first)
  unfolding status_idx
  status-plain none first = search plainly depth 12

  parts-plain : (all w : ℕ) (status : Status) → Plain M Q _ (parts_of all w status)
  parts-plain all w Default = giving
  parts-plain all w Full = giving
  parts-plain all w Reuse = giving
  parts-plain all w Mixed = reads

  basic-plain : (status : Status) → Plain M Q _ (object_basic_info status)
  unfolding object_basic_info
  basic-plain status = search (plainly, parts-plain) depth 12

  differences-plain : Plain M Q _ differences
  unfolding differences
  differences-plain = search plainly depth 12

  coordinates-plain : Plain M Q _ coordinates
  unfolding coordinates
  coordinates-plain = search plainly depth 12

  position-plain : (on first : Bool) → Plain M Q _ (position on first)
  unfolding position
  position-plain on first = search (plainly, differences-plain, coordinates-plain) depth 12

  distance-plain : (on : Bool) → Plain M Q _ (distance on)
  unfolding distance
  distance-plain on = search plainly depth 12

  screen-plain : (on : Bool) → Plain M Q _ (screen on)
  unfolding screen
  screen-plain on = search plainly depth 12

  additional-plain : Plain M Q _ additional_table_data
  unfolding additional_table_data
  additional-plain = search plainly depth 12

  precise-plain : (carries : Bool) → Plain M Q _ (ext_prec_pos_block carries)
  unfolding ext_prec_pos_block
  precise-plain carries = search plainly depth 12

  pub size-plain : (k value g : ℕ) → Plain M Q _ (size_from k value g)
  unfolding size_from
  size-plain zero value g = search plainly depth 12
  size-plain (suc k) value g =
      let ih = size-plain k in
      search (plainly, ih) depth 12

  count-plain : Plain M Q _ object_count
  unfolding object_count
  count-plain = search plainly depth 12

  pub many-plain : Plain M Q _ oa_element_count
  unfolding oa_element_count
  many-plain = search plainly depth 12

  -- ---- with fields of which values are reserved: these are marked

  module _ (reserved : (f : Field) → M ℕ (unreserved f)) where
    mark : (f : Field) → Plain M Q ℕ (unreserved f)
    mark f = marked (reserved f)

    isf-plain : (content : ℕ) → Plain M Q _ (intermediate_spatial_format content)
    unfolding intermediate_spatial_format
    isf-plain content = search (plainly, mark IntermediateSpatialFormatIdx) depth 12

    assignment-plain : (objects : ℕ) → Plain M Q _ (program_assignment objects)
    unfolding program_assignment
    assignment-plain objects = search (plainly, beds-plain, isf-plain, dynamics-plain, data-plain) depth 12

    offset-plain : Plain M Q _ sample_offset
    unfolding sample_offset
    offset-plain = search (plainly, mark SampleOffsetCode) depth 12

    timing-plain : Plain M Q _ md_update_info
    unfolding md_update_info
    timing-plain = search (plainly, offset-plain, update-plain) depth 12

    zone-plain : (on : Bool) → Plain M Q _ (zone on)
    unfolding zone
    zone-plain on = search (plainly, mark ZoneConstraintsIdx) depth 12

    extent-plain : (on : Bool) → Plain M Q _ (extent on)
    unfolding extent
    extent-plain on = search (plainly, mark ObjectSizeIdx) depth 12

    render-plain : (status : Status) (first : Bool) → Plain M Q _ (object_render_info status first)
    unfolding object_render_info
    render-plain status first = search (plainly, parts-plain, position-plain, distance-plain, zone-plain, extent-plain, screen-plain) depth 12

    block-plain : (class blk : ℕ) → Plain M Q _ (object_info_block class blk)
    unfolding object_info_block
    block-plain class blk = search (plainly, status-plain, basic-plain, render-plain, additional-plain) depth 12

    object-plain : (blocks class : ℕ) → Plain M Q _ (object_data blocks class)
    unfolding object_data
    object-plain blocks class = search (plainly, block-plain) depth 12

    objects-plain : (objects : ℕ) (shares : Shares) → Plain M Q _ (object_element objects shares)
    unfolding object_element
    objects-plain objects shares = search (plainly, timing-plain, object-plain) depth 12

    -- trim_height has the width and the reserved values of trim_surround: it is the same reader
    config-plain : Plain M Q _ trim_config
    unfolding trim_config
    config-plain = search (plainly, mark TrimSurround) depth 20

    trim-plain : (objects : ℕ) → Plain M Q _ (trim_element objects)
    unfolding trim_element
    trim-plain objects = search (plainly, config-plain, mark WarpMode, mark GlobalTrimMode) depth 12

    divergence-plain : (carries : Bool) → Plain M Q _ (obj_div_block carries)
    unfolding obj_div_block
    divergence-plain carries = search (plainly, mark ObjectDivMode, mark ObjectDivCode) depth 12

    extended-plain : (carries : List Bool) → Plain M Q _ (extended_object_element carries)
    unfolding extended_object_element
    extended-plain carries = search (plainly, divergence-plain, precise-plain) depth 12

    pub fields-plain : (p : Programme) (k : Kind) (known : Known) → Plain M Q _ (fields p k known)
    unfolding fields
    fields-plain p Unknown known = giving
    fields-plain p Object known = both (objects-plain _ _) (λ e. giving)
    fields-plain p Trim known = both (trim-plain _) (λ t. giving)
    fields-plain p Extended known = both (extended-plain _) (λ e. giving)

    -- ---- what stands before the elements

    module _ (version : Q 3) (counts : Q 4) where
      version-plain : Plain M Q _ oa_md_version
      unfolding oa_md_version
      version-plain = search plainly depth 12

      pub header-plain : Plain M Q _ header
      unfolding header
      header-plain = search (plainly, version-plain, count-plain, assignment-plain) depth 12

    -- ---- the whole, where its elements are marked

    module _ (element : (p : Programme) (alternate : ℕ) (st : State) → M State (oa_element_md p alternate st)) where
      elements-plain : (p : Programme) (alternate n : ℕ) (st : State) → Plain M Q _ (elements p alternate n st)
      unfolding elements
      elements-plain p alternate zero st = giving
      elements-plain p alternate (suc n) st = both (marked (element p alternate st)) (λ st. elements-plain p alternate n st)

      pub payload-plain : Q 3 → Q 4 → Plain M Q _ object_audio_metadata_payload
      unfolding object_audio_metadata_payload
      payload-plain version counts = search (plainly, header-plain version counts, many-plain, elements-plain) depth 12
