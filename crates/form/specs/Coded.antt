-- The written form's choices (docs/DECISIONS.md, "The written form"): from a value of the tables to the coded fields that carry it.
use Rattle.std.specs.Prelude.{ℕ, ◌+◌, ◌-◌, ◌/◌, ltb, eqb}
use Rattle.bits.specs.Language.{pick, both, as_flag}
use Rattle.oamd.specs.declared.Offset.{Offset}
use Rattle.oamd.specs.declared.Update.{Update}
use Rattle.oamd.specs.declared.BlockUpdate.{BlockUpdate}
use Rattle.oamd.specs.declared.Gain.{Gain}
use Rattle.oamd.specs.declared.Priority.{Priority}
use Rattle.oamd.specs.declared.Distance.{Distance}
use Rattle.oamd.specs.declared.Volume.{Volume}
use Rattle.oamd.specs.declared.Extent.{Extent}
use Rattle.oamd.specs.Meaning.{zero_db, zero_z}

-- a sample offset by code 0 or 2 (Table 22)
unfoldable pub coded_offset : ℕ → Offset
coded_offset offset = record { code = pick (eqb offset 0) 0 2; index = 0; bits = offset }

-- a ramp by code 0, 1 or 2 if one gives it (Table 24)
unfoldable pub ramp_code : ℕ → ℕ
ramp_code ramp = pick (eqb ramp 0) 0 (pick (eqb ramp 512) 1 (pick (eqb ramp 1536) 2 3))

-- else by 11 bits, and only 2,048, which they do not hold, by index 15 (Table 25)
unfoldable pub coded_update : Update → BlockUpdate
coded_update u = record {
  bits = pick (both (eqb (ramp_code u.ramp.0) 3) (ltb u.ramp.0 2048)) u.ramp.0 0;
  factor = u.start.0 / 32;
  code = ramp_code u.ramp.0;
  indexed = pick (ltb u.ramp.0 2048) 0 1;
  index = pick (ltb u.ramp.0 2048) 0 15;
}

-- a gain by index 0 for 0 dB, 1 for minus infinity, else 2; never 3 (Tables 18 and 19)
unfoldable pub gain_index : ℕ → ℕ
gain_index gain = pick (eqb gain zero_db) 0 (pick (eqb gain 0) 1 2)

unfoldable pub coded_gain : ℕ → Gain
coded_gain gain = record {
  index = gain_index gain;
  bits = pick (eqb (gain_index gain) 2) (pick (ltb zero_db gain) (zero_db + 15 - gain) (zero_db + 14 - gain)) 0;
}

-- the flag for a priority of 32 of 32, else 5 bits (5.6.1.3)
unfoldable pub coded_priority : ℕ → Priority
coded_priority priority = record { bydefault = as_flag (eqb priority 32); bits = pick (eqb priority 32) 0 priority }

-- z's sign and size: 0, which either sign gives, with sign 0 (5.6.1.1.10, 5.6.1.1.11)
unfoldable pub z_sign : ℕ → ℕ
z_sign z = as_flag (ltb zero_z z)

unfoldable pub z_bits : ℕ → ℕ
z_bits z = pick (ltb zero_z z) (z - zero_z) (zero_z - z)

-- not given, at infinity, or an index (5.6.1.1.15 to 5.6.1.1.17)
unfoldable pub coded_distance : ℕ → Distance
coded_distance distance = record { given = as_flag (ltb 0 distance); infinite = as_flag (eqb distance 1); index = distance - 2 }

-- no size, one for all three, or three (Table 17)
unfoldable pub size_index : Volume → ℕ
size_index v = pick (both (eqb v.width v.depth) (eqb v.width v.height)) (pick (eqb v.width 0) 0 1) 2

unfoldable pub coded_extent : Volume → Extent
coded_extent v = record {
  index = size_index v;
  all = pick (eqb (size_index v) 1) v.width 0;
  width = pick (eqb (size_index v) 2) v.width 0;
  depth = pick (eqb (size_index v) 2) v.depth 0;
  height = pick (eqb (size_index v) 2) v.height 0;
}
