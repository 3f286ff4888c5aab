-- The tables and the limits, each in one place.
use Rattle.std.specs.Prelude.{List, [], ◌∷◌, ℕ}

-- a payload's bytes, at the most (house rule)
abbrev pub most_bytes : ℕ
most_bytes = 4096

-- the elements of a payload, at the most: 15 and 5 bits more
abbrev pub most_elements : ℕ
most_elements = 46

-- the objects, at the most: 31, 7 bits more, and 1
abbrev pub most_objects : ℕ
most_objects = 159

-- the update blocks, at the most: 3 bits and 1
abbrev pub most_blocks : ℕ
most_blocks = 8

-- the bed instances, at the most: 3 bits and 2
abbrev pub most_beds : ℕ
most_beds = 9

-- the bytes of a record that the payload gives
abbrev pub record_bytes : ℕ
record_bytes = 24

-- the bytes of its time, behind them
abbrev pub time_bytes : ℕ
time_bytes = 8

-- from one record to the next in a lent buffer: both
abbrev pub record_stride : ℕ
record_stride = 32

-- the samples of a frame
abbrev pub frame_samples : ℕ
frame_samples = 1536

-- room for the records of every payload, and to spare
abbrev pub room_bytes : ℕ
room_bytes = 40960

-- the same without their times, as a reader keeps them until a payload is accepted
abbrev pub scratch_bytes : ℕ
scratch_bytes = 30720

-- NUM_TRIM_CONFIGS (000, 6.3.9.10.4)
abbrev pub trim_configs : ℕ
trim_configs = 9

-- the bytes of a trim configuration in the trim table
abbrev pub config_bytes : ℕ
config_bytes = 10

-- the bytes of the trim table before the configurations
abbrev pub trim_head : ℕ
trim_head = 3

-- the byte of the trim table that is b_disable_trim_per_obj, behind the configurations
abbrev pub per_object_byte : ℕ
per_object_byte = 93

-- the bytes of the trim table before the flags of the objects
abbrev pub trim_fixed : ℕ
trim_fixed = 94

-- the bytes of the trim table, at the most
abbrev pub most_trim : ℕ
most_trim = 253

-- the bytes of an answer in a batch
abbrev pub answer_bytes : ℕ
answer_bytes = 136

-- Table 11b, number of objects by intermediate_spatial_format_idx; 6 and 7 are reserved
abbrev pub isf_objects : List ℕ
isf_objects = 4 ∷ 8 ∷ 10 ∷ 14 ∷ 15 ∷ 30 ∷ []

-- Table 12, number of speaker labels by index of bed_channel_assignment[]:
-- LFE2, LW/RW, TBL/TBR, TSL/TSR, TFL/TFR, LB/RB, LS/RS, LFE, C, L/R
abbrev pub bed_labels : List ℕ
bed_labels = 1 ∷ 2 ∷ 2 ∷ 2 ∷ 2 ∷ 2 ∷ 2 ∷ 1 ∷ 1 ∷ 2 ∷ []

-- Table 13, one label for each index of nonstd_bed_channel_assignment[]
abbrev pub nonstd_labels : List ℕ
nonstd_labels = 1 ∷ 1 ∷ 1 ∷ 1 ∷ 1 ∷ 1 ∷ 1 ∷ 1 ∷ 1 ∷ 1 ∷ 1 ∷ 1 ∷ 1 ∷ 1 ∷ 1 ∷ 1 ∷ 1 ∷ []

-- Table 15, byte 7 of a record by distance_factor_idx
abbrev pub distance_codes : List ℕ
distance_codes = 2 ∷ 3 ∷ 4 ∷ 5 ∷ 6 ∷ 7 ∷ 8 ∷ 9 ∷ 10 ∷ 11 ∷ 12 ∷ 13 ∷ 14 ∷ 15 ∷ 16 ∷ 17 ∷ []

-- Table 23, sample offset by sample_offset_idx
abbrev pub sample_offsets : List ℕ
sample_offsets = 8 ∷ 16 ∷ 18 ∷ 24 ∷ []

-- Table 24, ramp by ramp_duration_code, as far as a code gives it
abbrev pub ramp_codes : List ℕ
ramp_codes = 0 ∷ 512 ∷ 1536 ∷ []

-- Table 25, ramp by ramp_duration_idx
abbrev pub ramp_durations : List ℕ
ramp_durations = 32 ∷ 64 ∷ 128 ∷ 256 ∷ 320 ∷ 480 ∷ 1000 ∷ 1001 ∷ 1024 ∷ 1600 ∷ 1601 ∷ 1602 ∷ 1920 ∷ 2000 ∷ 2002 ∷ 2048 ∷ []
