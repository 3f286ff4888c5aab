-- The bound of the longest form is reached: 159 dynamic objects with eight blocks behind nine empty non-standard beds, and the longest trim element.
use Rattle.std.specs.Prelude.{◌≡◌, refl, ℕ, ◌+◌, ◌/◌, length, replicate}
use Rattle.std.proofs.Common.{ap, ◌∙◌}
use Rattle.bits.specs.Writes.{to_bits, each_bits}
use Rattle.bits.specs.Bytes.{length-to_bytes}
use Rattle.oamd.specs.declared.Programme.{Programme}
use Rattle.oamd.specs.declared.Timing.{Timing}
use Rattle.oamd.specs.Programme.{bed_of, agrees, named, shares, all_beds, bed_objects, labels, class_of}
use Rattle.oamd.specs.Timing.{samples}
use Rattle.oamd.specs.Trim.{TrimTable}
use Rattle.oamd.specs.Record.{Record}
use Rattle.oamd.specs.Payload.{Tables}
use Rattle.form.specs.Valid.{between_if, entries_valid, bed_valid, programme_valid, offset_in_samples, update_valid, timing_valid, location_valid, volume_valid, zone_valid, screen_valid}
use Rattle.form.specs.Valid.{scene_valid, divergence_valid, precise_valid, record_valid, first_bad, config_valid, trim_valid, Valid}
use Rattle.form.specs.Coded.{coded_offset, ramp_code, coded_update, gain_index, coded_gain, coded_priority, z_sign, z_bits, coded_distance, size_index, coded_extent}
use Rattle.form.specs.Form.{count_bits, bed_bits, beds_bits, assignment_bits, header_bits, offset_bits, update_bits, timing_bits, status_bits, gain_bits, priority_bits, position_bits}
use Rattle.form.specs.Form.{distance_bits, zone_bits, extent_bits, screen_bits, basic_bits, render_bits, block_bits, by_object, object_data_bits, object_element_bits, divergence_bits}
use Rattle.form.specs.Form.{precise_bits, any, extended_element_bits, config_bits, trim_element_bits, group_bits, size_bits, size_for, framed_bits, element_bits, has_extended, form_bits, form}

-- nine empty non-standard beds, and 159 dynamic objects
full_programme : Programme
full_programme = record {
  objects = 159;
  dynonly = 0;
  lfe = 0;
  content = 5;
  distribute = 0;
  multiple = 1;
  instances = 7;
  bedcount = 9;
  isf = 0;
  dynamics = 158;
  beds = replicate 9 (bed_of 0 0 0);
}

-- a sample offset, and ramps that no code gives
full_timing : Timing
full_timing = record { blocks = 8; updates = replicate 8 (record { start = samples 1; ramp = samples 1 }) }

-- everything sent
full_record : Record
full_record = record {
  scene = record {
    active = 1;
    class = 2;
    gain = 1;
    priority = 1;
    location = record { x = 1; y = 1; z = 65; distance = 2 };
    volume = record { width = 1; depth = 2; height = 3 };
    zone = record { index = 1; elevation = 1 };
    screen = record { used = 1; factor = 1; depth = 1 };
    snap = 1;
  };
  divergence = record { used = 1; mode = 2; value = 1 };
  precise = record { presence = 7; x = 1; y = 1; z = 1 };
}

full_trim : TrimTable
full_trim = record {
  present = 1;
  warp = 0;
  mode = 2;
  configs = replicate 9 (record {
    bydefault = 0;
    disabled = 0;
    presence = 31;
    centre = 0;
    surround = 4;
    height = 4;
    tbsign = 0;
    tbamount = 0;
    lissign = 0;
    lisamount = 0;
  });
  per-object = 1;
  disabled = replicate 159 1;
}

pub full_tables : Tables
full_tables = record { programme = full_programme; timing = full_timing; records = replicate 1272 full_record; trim = full_trim }

pub full-valid : Valid full_tables
unfolding full_tables full_programme full_timing full_record full_trim programme_valid entries_valid bed_valid agrees named shares all_beds bed_objects labels class_of
    timing_valid offset_in_samples update_valid first_bad record_valid scene_valid location_valid volume_valid zone_valid screen_valid divergence_valid precise_valid trim_valid
    config_valid between_if
full-valid = record { programme = refl; timing = refl; count = refl; records = refl; trim = refl }

full-bits : length (form_bits full_tables) ≡ 115845
unfolding full_tables full_programme full_timing full_record full_trim form_bits header_bits count_bits assignment_bits beds_bits bed_bits object_element_bits timing_bits
    offset_bits coded_offset offset_in_samples update_bits coded_update ramp_code by_object object_data_bits block_bits status_bits basic_bits render_bits gain_bits priority_bits
    position_bits distance_bits zone_bits extent_bits screen_bits coded_gain gain_index coded_priority z_sign z_bits coded_distance size_index coded_extent
    extended_element_bits divergence_bits precise_bits any has_extended trim_element_bits config_bits element_bits framed_bits size_bits size_for group_bits to_bits each_bits
full-bits = refl

-- its 115,845 bits take 14,481 bytes
pub reached : length (form full_tables) ≡ 14481
unfolding form
reached = length-to_bytes (form_bits full_tables) ∙ ap (λ (n : ℕ). (n + 7) / 8) full-bits
