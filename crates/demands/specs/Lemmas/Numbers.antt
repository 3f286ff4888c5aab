-- Which numbers each reader of the payload refuses with: Q is whatever holds of them.
use Rattle.std.specs.Prelude.{Bool, List}
use Prim.Native.Nat.{ℕ, zero, suc}
use Rattle.bits.specs.Laws.{saying}
use Rattle.bits.specs.Size.{size_from}
use Rattle.bits.specs.Terms.{Says}
use Rattle.oamd.specs.declared.Kind.{Kind}
use Rattle.oamd.specs.declared.Kind.TheVariants.{Unknown, Object, Trim, Extended}
use Rattle.oamd.specs.declared.Programme.{Programme}
use Rattle.oamd.specs.declared.Shares.{Shares}
use Rattle.oamd.specs.declared.Status.{Status}
use Rattle.oamd.specs.declared.Status.TheVariants.{Default, Full, Reuse, Mixed}
use Rattle.oamd.specs.Programme.{bed_assignment, bed_instances, intermediate_spatial_format, num_dynamic_objects, reserved_data, program_assignment}
use Rattle.oamd.specs.Timing.{sample_offset, block_update_info, md_update_info}
use Rattle.oamd.specs.Block.{status_idx, parts_of, object_basic_info, differences, coordinates, position, distance, zone, extent, screen, object_render_info, additional_table_data, object_info_block}
use Rattle.oamd.specs.ObjectElement.{object_data, object_element}
use Rattle.oamd.specs.Extended.{obj_div_block, ext_prec_pos_block, extended_object_element}
use Rattle.oamd.specs.Trim.{trim_config, trim_element}
use Rattle.oamd.specs.Element.{framed, Known, fields, State, pass_over, read_known, oa_element, oa_element_md, elements}
use Rattle.oamd.specs.Payload.{oa_md_version, object_count, oa_element_count, header, object_audio_metadata_payload}
use Rattle.demands.specs.Lemmas.Elements.{by_kind}

nothing_said : Unit {0}
nothing_said = tt

-- ---- the program assignment says 5, and so do the fields of known elements

module _ (Q : ℕ → Type 0) (reserved : Q 5) where
  bed-says : Says bed_assignment Q
  unfolding Says bed_assignment
  bed-says = search (saying, nothing_said) depth 12

  beds_say : (content : ℕ) → Says (bed_instances content) Q
  unfolding Says bed_instances
  beds_say content = search (saying, nothing_said, bed-says) depth 12

  isf-says : (content : ℕ) → Says (intermediate_spatial_format content) Q
  unfolding Says intermediate_spatial_format
  isf-says content = search (saying, nothing_said) depth 12

  dynamics_say : (content : ℕ) → Says (num_dynamic_objects content) Q
  unfolding Says num_dynamic_objects
  dynamics_say content = search (saying, nothing_said) depth 12

  data-says : (content : ℕ) → Says (reserved_data content) Q
  unfolding Says reserved_data
  data-says content = search (saying, nothing_said) depth 12

  pub assignment-says : (objects : ℕ) → Says (program_assignment objects) Q
  unfolding Says program_assignment
  assignment-says objects = search (saying, nothing_said, beds_say, isf-says, dynamics_say, data-says) depth 12

  offset-says : Says sample_offset Q
  unfolding Says sample_offset
  offset-says = search (saying, nothing_said) depth 12

  update-says : Says block_update_info Q
  unfolding Says block_update_info
  update-says = search (saying, nothing_said) depth 12

  timing-says : Says md_update_info Q
  unfolding Says md_update_info
  timing-says = search (saying, nothing_said, offset-says, update-says) depth 12

  status-says : (none first : Bool) → Says (status_idx none first) Q
  unfolding Says status_idx
  status-says none first = search (saying, nothing_said) depth 12

  parts_say : (all w : ℕ) (status : Status) → Says (parts_of all w status) Q
  unfolding Says
  parts_say all w Default = tt
  parts_say all w Full = tt
  parts_say all w Reuse = tt
  parts_say all w Mixed = tt

  basic-says : (status : Status) → Says (object_basic_info status) Q
  unfolding Says object_basic_info
  basic-says status = search (saying, nothing_said, parts_say) depth 12

  differences_say : Says differences Q
  unfolding Says differences
  differences_say = search (saying, nothing_said) depth 12

  coordinates_say : Says coordinates Q
  unfolding Says coordinates
  coordinates_say = search (saying, nothing_said) depth 12

  position-says : (on first : Bool) → Says (position on first) Q
  unfolding Says position
  position-says on first = search (saying, nothing_said, differences_say, coordinates_say) depth 12

  distance-says : (on : Bool) → Says (distance on) Q
  unfolding Says distance
  distance-says on = search (saying, nothing_said) depth 12

  zone-says : (on : Bool) → Says (zone on) Q
  unfolding Says zone
  zone-says on = search (saying, nothing_said) depth 12

  extent-says : (on : Bool) → Says (extent on) Q
  unfolding Says extent
  extent-says on = search (saying, nothing_said) depth 12

  screen-says : (on : Bool) → Says (screen on) Q
  unfolding Says screen
  screen-says on = search (saying, nothing_said) depth 12

  render-says : (status : Status) (first : Bool) → Says (object_render_info status first) Q
  unfolding Says object_render_info
  render-says status first = search (saying, nothing_said, parts_say, position-says, distance-says, zone-says, extent-says, screen-says) depth 12

  additional-says : Says additional_table_data Q
  unfolding Says additional_table_data
  additional-says = search (saying, nothing_said) depth 12

  block-says : (class blk : ℕ) → Says (object_info_block class blk) Q
  unfolding Says object_info_block
  block-says class blk = search (saying, nothing_said, status-says, basic-says, render-says, additional-says) depth 12

  object-says : (blocks class : ℕ) → Says (object_data blocks class) Q
  unfolding Says object_data
  object-says blocks class = search (saying, block-says) depth 12

  objects_say : (objects : ℕ) (shares : Shares) → Says (object_element objects shares) Q
  unfolding Says object_element
  objects_say objects shares = search (saying, nothing_said, timing-says, object-says) depth 12

  config-says : Says trim_config Q
  unfolding Says trim_config
  config-says = (
    tt,
    λ bydefault. (search (saying, nothing_said), λ disabled. (search (saying, nothing_said), λ presence. search (saying, nothing_said) depth 12)),
  )

  trim-says : (objects : ℕ) → Says (trim_element objects) Q
  unfolding Says trim_element
  trim-says objects = search (saying, nothing_said, config-says) depth 12

  divergence-says : (carries : Bool) → Says (obj_div_block carries) Q
  unfolding Says obj_div_block
  divergence-says carries = search (saying, nothing_said) depth 12

  precise-says : (carries : Bool) → Says (ext_prec_pos_block carries) Q
  unfolding Says ext_prec_pos_block
  precise-says carries = search (saying, nothing_said) depth 12

  extended-says : (carries : List Bool) → Says (extended_object_element carries) Q
  unfolding Says extended_object_element
  extended-says carries = search (saying, nothing_said, divergence-says, precise-says) depth 12

  pub fields_say : (p : Programme) (k : Kind) (known : Known) → Says (fields p k known) Q
  unfolding Says fields
  fields_say p Unknown known = tt
  fields_say p Object known = (objects_say _ _, λ e. tt)
  fields_say p Trim known = (trim-says _, λ t. tt)
  fields_say p Extended known = (extended-says _, λ e. tt)

pub size-says : (Q : ℕ → Type 0) (k value g : ℕ) → Says (size_from k value g) Q
unfolding Says size_from
size-says Q zero value g = (tt, λ read. (tt, λ more. tt))
size-says Q (suc k) value g =
    let ih = size-says Q k in
    search (saying, nothing_said, ih) depth 12

-- ---- the elements say 5, 6 and 7

module _ (Q : ℕ → Type 0) (reserved : Q 5) (second : Q 6) (early : Q 7) where
  known-says : (p : Programme) (back : ℕ) (st : State) (k : Kind) → Says (read_known p back st k) Q
  unfolding Says read_known
  known-says p back st k = search (saying, nothing_said, fields_say Q reserved) depth 12

  inside-says : (p : Programme) (back : ℕ) (st : State) (k : Kind) → Says (oa_element p back st k) Q
  unfolding Says pass_over
  inside-says p back st = by_kind p back st (λ k x. Says x Q) tt (λ k known. known-says p back st k)

  element-says : (p : Programme) (alternate : ℕ) (st : State) → Says (oa_element_md p alternate st) Q
  unfolding Says oa_element_md framed
  element-says p alternate st = search (saying, nothing_said, size-says Q, inside-says) depth 12

  pub elements_say : (p : Programme) (alternate n : ℕ) (st : State) → Says (elements p alternate n st) Q
  unfolding Says elements
  elements_say p alternate zero st = tt
  elements_say p alternate (suc n) st = (element-says p alternate st, λ st. elements_say p alternate n st)

-- ---- the header says 3, 4 and 5

pub version-says : (Q : ℕ → Type 0) → Q 3 → Says oa_md_version Q
unfolding Says oa_md_version
version-says Q version = search (saying, nothing_said) depth 12

pub count-says : (Q : ℕ → Type 0) → Says object_count Q
unfolding Says object_count
count-says Q = search (saying, nothing_said) depth 12

pub many_say : (Q : ℕ → Type 0) → Says oa_element_count Q
unfolding Says oa_element_count
many_say Q = search (saying, nothing_said) depth 12

pub header-says : (Q : ℕ → Type 0) → Q 3 → Q 4 → Q 5 → Says header Q
unfolding Says header
header-says Q version counts reserved = search (saying, nothing_said, version-says, count-says, assignment-says Q reserved) depth 12

-- the payload says 3 to 7
pub payload-says : (Q : ℕ → Type 0) → Q 3 → Q 4 → Q 5 → Q 6 → Q 7 → Says object_audio_metadata_payload Q
unfolding Says object_audio_metadata_payload
payload-says Q version counts reserved second early =
    search (saying, nothing_said, header-says, many_say, elements_say Q reserved second early) depth 12
