-- What the functions on the way to an answer ask, and what they promise. Each is called for a payload that was read.
use Rattle.std.specs.Prelude.{◌≡◌, Option, None, Some, List, ℕ, ◌-◌, ◌*◌, ◌≤◌, ◌<◌, eqb, length, get_or}
use Rattle.bits.specs.Language.{Res, ok, no, pick}
use Rattle.oamd.specs.Tables.{most_bytes, most_objects, most_blocks, record_stride}
use Rattle.oamd.specs.Element.{nothing}
use Rattle.oamd.specs.Payload.{Payload}
use Rattle.oamd.specs.Answer.{no_programme}
use Rattle.demands.specs.Terms.{parsed, tables_of}
use Rattle.sources.specs.declared.Source.{Source}
use Rattle.sources.specs.declared.Source.TheVariants.{ByField, ByProgramme, ByBasicDefault, ByRenderDefault, ByNothing, ByBlock, ByMove, ByObject}
use Rattle.sources.specs.declared.WhyStep.{WhyStep}
use Rattle.sources.specs.declared.Told.{Told}
use Rattle.sources.specs.declared.Named.{Named}
use Rattle.sources.specs.declared.Link.{Link}
use Rattle.sources.specs.Sources.{source_number}
use Rattle.sources.specs.Chain.{objects_in, blocks_in, no_record, source_at}
use Rattle.sources.specs.Explaining.{source_bit, source_field, source_difference}

-- ---- the payload

-- as read; what stands for a refused one is never looked at
abbrev pub payload_read : Res Payload → Payload
payload_read (ok q to) = q
payload_read (no r pl m) = record { programme = no_programme; known = nothing; unknown = 0 }

unfoldable pub payload_in : List ℕ → Payload
payload_in s = payload_read (parsed s)

-- the payload s was read
pub record Accepted (s : List ℕ) : Type 0 where
  pub short : length s ≤ most_bytes
  pub to : ℕ
  pub ran : parsed s ≡ ok (payload_in s) to

-- it has n blocks of each object, and among them block b of object j
pub record Asked (s : List ℕ) (n j b : ℕ) : Type 0 where
  pub accepted : Accepted s
  pub blocks : n ≡ blocks_in (payload_in s)
  pub objects : objects_in (payload_in s) ≤ most_objects
  pub few : n ≤ most_blocks
  pub object : j < objects_in (payload_in s)
  pub block : b < n

-- the records of a payload, at the most
abbrev pub most_records : ℕ
most_records = 1272

-- its records stand in a buffer, each with its time
pub record Recorded (s records : List ℕ) : Type 0 where
  pub room : record_stride * (objects_in (payload_in s) * blocks_in (payload_in s)) ≤ length records
  pub same : (i : ℕ) → i < objects_in (payload_in s) * blocks_in (payload_in s)
      → Rattle.record.specs.Bytes.record_at records (record_stride * i) ≡ get_or (tables_of (payload_in s)).records i no_record

-- ---- a step

-- the field that a source names, with the difference in it, as carried
abbrev pub named_by : Source → Option Named
named_by (ByField f) = Some (record { field = f; difference = 0 })
named_by ByProgramme = None
named_by ByBasicDefault = None
named_by ByRenderDefault = None
named_by ByNothing = None
named_by ByBlock = None
named_by (ByMove f d) = Some (record { field = f; difference = d })
named_by ByObject = None

-- where a byte of a record comes from, and the first bit of the field that this names
unfoldable pub told_at : List ℕ → ℕ → ℕ → ℕ → ℕ → Told
told_at s n byte j b =
    record { source = source_at s (payload_in s) byte j b; bit = source_bit s n j b (source_at s (payload_in s) byte j b) }

-- what is answered of it, with the byte's value
abbrev pub step_of : Told → ℕ → ℕ → ℕ → WhyStep
step_of told j b value = record {
  bit = told.bit;
  object = j;
  block = b;
  value = value;
  source = source_number told.source;
  field = source_field told.source;
  difference = source_difference told.source;
}

-- if any step is left
abbrev pub if_left : ℕ → Link → Option Link
if_left left next = pick (eqb left 0) None (Some next)

-- where a chain goes on behind a step whose source is x, at block b of object j, with so many steps left behind it
abbrev pub link_of : Source → ℕ → ℕ → ℕ → Option Link
link_of (ByField f) j b left = None
link_of ByProgramme j b left = None
link_of ByBasicDefault j b left = None
link_of ByRenderDefault j b left = None
link_of ByNothing j b left = None
link_of ByBlock j b left = if_left left (record { object = j; block = b - 1; left = left - 1 })
link_of (ByMove f d) j b left = if_left left (record { object = j; block = b - 1; left = left - 1 })
link_of ByObject j b left = if_left left (record { object = j - 1; block = b; left = left - 1 })
