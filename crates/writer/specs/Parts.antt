-- What the parts of a form are laid by, found before a bit is laid.
use Rattle.std.specs.Prelude.{◌≡◌, Bool, true, false, List, [], ◌++◌, ℕ, zero, suc, ◌+◌, ◌*◌, ◌<◌, ◌≤◌, length}
use Rattle.bits.specs.Language.{pick}
use Rattle.bits.specs.Writes.{each_bits}
use Rattle.oamd.specs.declared.Programme.{Programme}
use Rattle.oamd.specs.declared.Timing.{Timing}
use Rattle.oamd.specs.Tables.{most_beds, most_blocks, record_stride}
use Rattle.oamd.specs.Trim.{trim_needed}
use Rattle.oamd.specs.Record.{Record, carries}
use Rattle.oamd.specs.Payload.{Tables}
use Rattle.form.specs.Valid.{record_count}
use Rattle.form.specs.Form.{divergence_bits, precise_bits, any, diverges, refines, object_element_bits, extended_element_bits, trim_element_bits, form_bits}
use Rattle.form.specs.Form.{size_bits, size_for, element_bits, by_object, object_data_bits}
use Rattle.record.specs.Bytes.{records_at}
use Rattle.coding.specs.declared.Packed.{Packed}
use Rattle.coding.specs.Packing.{PacksIn}
use Rattle.laying.specs.Laying.{widest_put, most_position}
use Rattle.form.specs.Answer.{trim_at, tables_of}
use Rattle.writer.specs.Most.{most_object_fields, most_extended_fields, most_trim_fields, most_size, most_padding, most_records, most_form}
use Rattle.writer.specs.declared.Groups.{Groups}
use Rattle.writer.specs.declared.Measures.{Measures}

-- one of the two groups of the extended element, of one record
abbrev pub extra_bits : Bool → Record → List ℕ
extra_bits true r = divergence_bits (carries r.scene) r.divergence
extra_bits false r = precise_bits (carries r.scene) r.precise

-- of each of n records
abbrev pub extras_bits : Bool → List ℕ → ℕ → List ℕ
extras_bits first s n = each_bits (λ i r. extra_bits first r) 0 (records_at s n 0)

-- the blocks of n objects, each with so many records
abbrev pub objects_bits : List ℕ → ℕ → ℕ → List ℕ
objects_bits s n blocks = each_bits (λ j rs. object_data_bits rs) 0 (by_object blocks n (records_at s (n * blocks) 0))

-- the object element's fields look at no trim table
abbrev pub object_bits : Programme → Timing → List ℕ → List ℕ
object_bits p t s = object_element_bits (tables_of p t s [])

-- the extended object element's fields, of n records
abbrev pub extended_bits : List ℕ → ℕ → List ℕ
extended_bits s n = extended_element_bits (records_at s n 0)

-- and the trim element's, of so many objects
abbrev pub trim_bits : List ℕ → ℕ → List ℕ
trim_bits x objects = trim_element_bits (trim_at objects x)

-- and each in its element
abbrev pub object_element_part : Programme → Timing → List ℕ → List ℕ
object_element_part p t s = element_bits 1 (object_bits p t s)

abbrev pub extended_element : List ℕ → ℕ → List ℕ
extended_element s n = element_bits 5 (extended_bits s n)

abbrev pub trim_element_part : List ℕ → ℕ → List ℕ
trim_element_part x objects = element_bits 2 (trim_bits x objects)

-- ---- how many bits

-- l has n bits, k at the most
pub record Wide (k n : ℕ) (l : List ℕ) : Type 0 where
  pub same : n ≡ length l
  pub most : n ≤ k

-- the bits of n parts, one behind the other, each by its number
unfoldable pub bits_below : (ℕ → List ℕ) → ℕ → List ℕ
bits_below f zero = []
bits_below f (suc n) = bits_below f n ++ f n

-- what is packed for each number below n are its bits of f, and they are `most` at the most
pub record PacksEach (post : ℕ → Packed → Type 0) (most : ℕ) (f : ℕ → List ℕ) (n : ℕ) : Type 0 where
  pub each : (i : ℕ) (r : Packed) → i < n → post i r → PacksIn 0 most r (f i)

-- and all of them have room behind a place
pub record Packable (post : ℕ → Packed → Type 0) (n at : ℕ) : Type 0 where
  pub most : ℕ
  pub bits : ℕ → List ℕ
  pub parts : PacksEach post most bits n
  pub widest : most ≤ widest_put
  pub room : at + most * n ≤ most_position

-- n bits inside an element are the discard flag and its fields, which are k bits at the most
pub record Inside (k n : ℕ) (fields : List ℕ) : Type 0 where
  pub same : n ≡ 1 + length fields
  pub most : n ≤ 1 + k

-- v is the size of an element with n bits inside: it counts the bytes, less 1, and they are the fewest that hold those bits
pub record Sized (n v : ℕ) : Type 0 where
  pub same : v ≡ size_for n
  pub least : n ≤ 8 * (v + 1)
  pub most : 8 * (v + 1) ≤ n + most_padding

-- the bits of an element with n bits inside
abbrev pub framed : ℕ → ℕ
framed n = 4 + length (size_bits (size_for n)) + 8 * (size_for n + 1)

-- r is how many those are, none for one that is not there
pub record Framed (on : Bool) (n r : ℕ) : Type 0 where
  pub same : r ≡ pick on (framed n) 0
  pub most : r ≤ 4 + most_size + n + most_padding

-- ---- what a form is laid from

-- n records stand in the bytes s, and they are not more than there can be
pub record Stand (n : ℕ) (s : List ℕ) : Type 0 where
  pub few : n ≤ most_records
  pub whole : record_stride * n ≤ length s

-- the records of all objects stand in the bytes s, and there are not more blocks than there can be
pub record Blocks (objects blocks : ℕ) (s : List ℕ) : Type 0 where
  pub few : blocks ≤ most_blocks
  pub whole : record_stride * (objects * blocks) ≤ length s

-- no more beds and blocks than there can be, and all bytes of the records and of the trim table
pub record Enough (p : Programme) (t : Timing) (s x : List ℕ) : Type 0 where
  pub beds : p.bedcount ≤ most_beds
  pub blocks : t.blocks ≤ most_blocks
  pub records : record_stride * record_count p t ≤ length s
  pub trim : trim_needed p.objects ≤ length x

-- which groups of the extended element some record needs
pub record Needed (rs : List Record) (g : Groups) : Type 0 where
  pub diverges : g.diverges ≡ any diverges rs
  pub refines : g.refines ≡ any refines rs

-- the records, which groups they need, the bits inside each element, and those of the whole form
pub record Measured (t : Tables) (m : Measures) : Type 0 where
  pub count : m.count ≡ record_count t.programme t.timing
  pub few : m.count ≤ most_records
  pub needed : Needed t.records m.groups
  pub object : Inside (most_object_fields t.programme.objects) m.object.0 (object_element_bits t)
  pub extended : Inside (most_extended_fields m.count) m.extended.0 (extended_element_bits t.records)
  pub trim : Inside (most_trim_fields t.programme.objects) m.trim.0 (trim_element_bits t.trim)
  pub whole : m.whole.0 ≡ length (form_bits t)
  pub small : m.whole.0 ≤ most_form
