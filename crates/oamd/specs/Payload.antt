-- 5.5.2 object_audio_metadata_payload, and the tables of what it carries.
use Rattle.std.specs.Prelude.{not, List, ℕ, ◌+◌, eqb, replicate}
use Rattle.std.proofs.Math.Option.{Option, none, some}
use Rattle.bits.specs.declared.Refusal.TheVariants.{Version, Counts}
use Rattle.bits.specs.Refusals.{number_of}
use Rattle.bits.specs.Language.{pick, P, give, ◌>>=◌, bits, bits_if, refuse_if}
use Rattle.oamd.specs.declared.Programme.{Programme}
use Rattle.oamd.specs.declared.Timing.{Timing}
use Rattle.oamd.specs.declared.Scene.{Scene}
use Rattle.oamd.specs.Programme.{program_assignment, agrees}
use Rattle.oamd.specs.Tables.{most_blocks}
use Rattle.oamd.specs.Timing.{timing_of, no_update}
use Rattle.oamd.specs.ObjectElement.{ObjectElement}
use Rattle.oamd.specs.Extended.{Extension}
use Rattle.oamd.specs.Trim.{TrimTable, trim_of}
use Rattle.oamd.specs.Record.{Record, plain_records, extended_records}
use Rattle.oamd.specs.Element.{Known, nothing, scenes, elements}

-- the version, its extension added, must be 0 (house rule)
unfoldable pub oa_md_version : P ℕ
oa_md_version = do
  oa_md_version_bits ← bits 2
  oa_md_version_bits_ext ← bits_if (eqb oa_md_version_bits 3) 3
  refuse_if {A = ℕ} (not (eqb oa_md_version_bits 0)) (number_of Version) (pick (eqb oa_md_version_bits 3) 5 2) 0

-- object_count
unfoldable pub object_count : P ℕ
object_count = do
  object_count_bits ← bits 5
  object_count_bits_ext ← bits_if (eqb object_count_bits 31) 7
  give (object_count_bits + object_count_bits_ext + 1)

-- how many elements follow
unfoldable pub oa_element_count : P ℕ
oa_element_count = do
  oa_element_count_bits ← bits 4
  oa_element_count_bits_ext ← bits_if (eqb oa_element_count_bits 15) 5
  give (oa_element_count_bits + oa_element_count_bits_ext)

-- what stands before the element count
pub record Header : Type 0 where
  pub programme : Programme
  pub alternate : ℕ

-- the counts are compared as soon as the program assignment has been read
unfoldable pub header : P Header
header = do
  version ← oa_md_version
  object_count ← object_count
  programme ← program_assignment object_count
  programme ← refuse_if (not (agrees programme)) (number_of Counts) 0 programme
  b_alternate_object_data_present ← bits 1
  give {A = Header} (record { programme = programme; alternate = b_alternate_object_data_present })

-- a payload as read
pub record Payload : Type 0 where
  pub programme : Programme
  pub known : Known
  pub unknown : ℕ

-- bits after the last element are padding
unfoldable pub object_audio_metadata_payload : P Payload
object_audio_metadata_payload = do
  header ← header
  oa_element_count ← oa_element_count
  st ← elements header.programme header.alternate oa_element_count (record { known = nothing; unknown = 0 })
  give {A = Payload} (record { programme = header.programme; known = st.known; unknown = st.unknown })

-- ---- the tables

pub record Tables : Type 0 where
  pub programme : Programme
  pub timing : Timing
  pub records : List Record
  pub trim : TrimTable

-- no update without an object element
abbrev pub no_timing : Timing
no_timing = record { blocks = 0; updates = replicate most_blocks no_update }

unfoldable pub timing : Option ObjectElement → Timing
timing none = no_timing
timing (some e) = timing_of e.timing

unfoldable pub records : List Scene → Option Extension → List Record
records ss none = plain_records ss
records ss (some e) = extended_records ss e.divergence e.precise

unfoldable pub tables : Programme → Known → Tables
tables p known = record {
  programme = p;
  timing = timing known.object;
  records = records (scenes known.object) known.extended;
  trim = trim_of p.objects known.trim;
}
