-- What each part of a form lays at the most, in bits: the sum of its fields' widths.
use Rattle.std.specs.Prelude.{ℕ, ◌+◌, ◌*◌}
use Rattle.oamd.specs.Tables.{most_beds, most_blocks, trim_configs}

-- ---- what stands before the elements

abbrev pub most_bed : ℕ
most_bed = 29

abbrev pub most_bed_list : ℕ
most_bed_list = most_beds * most_bed

-- before the list of beds, the list, and behind it
abbrev pub most_header : ℕ
most_header = 25 + (most_bed_list + 16)

-- ---- the object element

abbrev pub most_update : ℕ
most_update = 24

abbrev pub most_updates : ℕ
most_updates = most_blocks * most_update

-- the sample offset and the count of blocks, and the updates
abbrev pub most_timing : ℕ
most_timing = 12 + most_updates

-- of a block: up to the zone, and from the size on
abbrev pub most_block : ℕ
most_block = 47 + 30

abbrev pub most_object : ℕ
most_object = most_blocks * most_block

abbrev pub most_object_fields : ℕ → ℕ
most_object_fields objects = most_timing + (1 + most_object * objects)

-- ---- the extended object element

abbrev pub most_divergence : ℕ
most_divergence = 11

abbrev pub most_precise : ℕ
most_precise = 10

-- of one record, either of the two
abbrev pub most_extra : ℕ
most_extra = most_divergence

abbrev pub most_extended_fields : ℕ → ℕ
most_extended_fields count = 1 + (most_extra * count + (1 + most_extra * count))

-- ---- the trim element

abbrev pub most_config : ℕ
most_config = 29

abbrev pub most_configs : ℕ
most_configs = trim_configs * most_config

abbrev pub most_trim_fields : ℕ → ℕ
most_trim_fields objects = 2 + (2 + (2 + (most_configs + (1 + objects))))

-- ---- an element around its fields

abbrev pub most_size : ℕ
most_size = 20

-- id, size and the discard flag
abbrev pub most_front : ℕ
most_front = 4 + (most_size + 1)

-- zeros up to the end of a byte
abbrev pub most_padding : ℕ
most_padding = 7

-- with fields of k bits at the most
abbrev pub most_element : ℕ → ℕ
most_element k = most_front + (k + most_padding)

abbrev pub most_object_element : ℕ → ℕ
most_object_element objects = most_element (most_object_fields objects)

abbrev pub most_extended_element : ℕ → ℕ
most_extended_element count = most_element (most_extended_fields count)

abbrev pub most_trim_element : ℕ → ℕ
most_trim_element objects = most_element (most_trim_fields objects)

-- ---- how many there can be

-- a count of objects is a byte in the tables
abbrev pub most_counted : ℕ
most_counted = 255

abbrev pub most_records : ℕ
most_records = most_counted * most_blocks

-- the whole form
abbrev pub most_form : ℕ
most_form = most_header + 4 + most_object_element most_counted + most_extended_element most_records + most_trim_element most_counted
