-- 5.5.6 md_update_info and 5.5.7 block_update_info, and what they mean (5.6.2).
use Rattle.std.specs.Prelude.{List, map, ℕ, ◌+◌, ◌*◌, eqb, length, get_or}
use Rattle.units.specs.declared.SampleCount.{SampleCount}
use Rattle.bits.specs.Language.{pick, both, P, give, ◌>>=◌, bits, bits_if, for}
use Rattle.oamd.specs.declared.Offset.{Offset}
use Rattle.oamd.specs.declared.BlockUpdate.{BlockUpdate}
use Rattle.oamd.specs.declared.Update.{Update}
use Rattle.oamd.specs.declared.Timing.{Timing}
use Rattle.oamd.specs.Programme.{set?, clear?, filled}
use Rattle.oamd.specs.Tables.{most_blocks, sample_offsets, ramp_codes, ramp_durations}
use Rattle.oamd.specs.Reserved.{SampleOffsetCode, unreserved}

unfoldable pub sample_offset : P Offset
sample_offset = do
  sample_offset_code ← unreserved SampleOffsetCode
  sample_offset_idx ← bits_if (eqb sample_offset_code 1) 2
  sample_offset_bits ← bits_if (eqb sample_offset_code 2) 5
  give {A = Offset} (record { code = sample_offset_code; index = sample_offset_idx; bits = sample_offset_bits })

-- The flag behind code 3 picks the index or the 11 bits; the other codes are followed by nothing
unfoldable pub block_update_info : P BlockUpdate
block_update_info = do
  block_offset_factor_bits ← bits 6
  ramp_duration_code ← bits 2
  b_use_ramp_duration_idx ← bits_if (eqb ramp_duration_code 3) 1
  ramp_duration_idx ← bits_if (set? b_use_ramp_duration_idx) 4
  ramp_duration_bits ← bits_if (both (eqb ramp_duration_code 3) (clear? b_use_ramp_duration_idx)) 11
  give {A = BlockUpdate} (record {
    bits = ramp_duration_bits;
    factor = block_offset_factor_bits;
    code = ramp_duration_code;
    indexed = b_use_ramp_duration_idx;
    index = ramp_duration_idx;
  })

pub record MdUpdateInfo : Type 0 where
  pub offset : Offset
  pub blocks : List BlockUpdate

unfoldable pub md_update_info : P MdUpdateInfo
md_update_info = do
  offset ← sample_offset
  num_obj_info_blocks_bits ← bits 3
  blocks ← for (num_obj_info_blocks_bits + 1) (λ blk. block_update_info)
  give {A = MdUpdateInfo} (record { offset = offset; blocks = blocks })

-- ---- what they mean

abbrev pub samples : ℕ → SampleCount
samples n = record { 0 = n }

-- Tables 22 and 23
unfoldable pub offset_of : Offset → ℕ
offset_of o = pick (eqb o.code 0) 0 (pick (eqb o.code 1) (get_or sample_offsets o.index 0) o.bits)

-- Tables 24 and 25
unfoldable pub ramp_of : BlockUpdate → ℕ
ramp_of u = pick (eqb u.code 3) (pick (set? u.indexed) (get_or ramp_durations u.index 0) u.bits) (get_or ramp_codes u.code 0)

-- A block starts at the sample offset plus 32 for each step of its factor, in the frame or past its end
unfoldable pub start_of : ℕ → ℕ → ℕ
start_of offset factor = offset + 32 * factor

abbrev pub update_of : ℕ → BlockUpdate → Update
update_of offset u = record { start = samples (start_of offset u.factor); ramp = samples (ramp_of u) }

abbrev pub no_update : Update
no_update = record { start = samples 0; ramp = samples 0 }

unfoldable pub timing_of : MdUpdateInfo → Timing
timing_of m = record { blocks = length m.blocks; updates = filled most_blocks no_update (map (update_of (offset_of m.offset)) m.blocks) }
