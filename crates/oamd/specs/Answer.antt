-- What a read answers, and what the lent buffers hold afterwards, for all bytes, all frame numbers and all buffers.
use Rattle.std.specs.Prelude.{List, ℕ, ◌*◌, eqb, leb, length, replicate}
use Rattle.bits.specs.declared.Refusal.TheVariants.{TooLong, EndsEarly, Room}
use Rattle.bits.specs.Refusals.{number_of}
use Rattle.bits.specs.Language.{Res, ok, no, pick, past_payload, run, bit}
use Rattle.oamd.specs.declared.Programme.{Programme}
use Rattle.oamd.specs.declared.Timing.{Timing}
use Rattle.oamd.specs.declared.ReadAnswer.{ReadAnswer}
use Rattle.oamd.specs.Tables.{most_bytes, most_beds, record_stride}
use Rattle.oamd.specs.Programme.{no_bed}
use Rattle.oamd.specs.Record.{onto}
use Rattle.oamd.specs.Time.{time_of, timed_bytes_of}
use Rattle.oamd.specs.Trim.{trim_bytes_of, trim_needed}
use Rattle.oamd.specs.Payload.{Payload, object_audio_metadata_payload, Tables, no_timing, tables}

-- the answer, and afterwards the buffers lent for the records and for the trim table
pub record Outcome : Type 0 where
  pub answer : ReadAnswer
  pub buffer : List ℕ
  pub trim : List ℕ

abbrev pub no_programme : Programme
no_programme = record {
  objects = 0;
  dynonly = 0;
  lfe = 0;
  content = 0;
  distribute = 0;
  multiple = 0;
  instances = 0;
  bedcount = 0;
  isf = 0;
  dynamics = 0;
  beds = replicate most_beds no_bed;
}

-- the bits that are answered as missing: as many as were, up to the most that 32 bits hold; with any refusal but that of ending early, none
unfoldable pub missing_of : ℕ → ℕ → ℕ
missing_of number missing = pick (eqb number (number_of EndsEarly)) (pick (leb missing 4294967295) missing 4294967295) 0

-- a refusal, at its place, with the bits that were missing there: all else is 0
abbrev pub refused_with : ℕ → ℕ → ℕ → ReadAnswer
refused_with number place missing =
    record { place = place; refusal = number; unknown = 0; programme = no_programme; timing = no_timing; missing = missing }

abbrev pub accepted_with : Programme → Timing → ℕ → ReadAnswer
accepted_with programme timing unknown = record { place = 0; refusal = 0; unknown = unknown; programme = programme; timing = timing; missing = 0 }

-- refused, both buffers are as they came
abbrev pub refused : List ℕ → List ℕ → ℕ → ℕ → ℕ → Outcome
refused buffer trim number place missing = record { answer = refused_with number place missing; buffer = buffer; trim = trim }

-- the records of tables, each with its time behind it
abbrev pub laid_records : ℕ → Tables → List ℕ
laid_records frame t = timed_bytes_of (time_of frame t.timing) 0 t.records

-- accepted, the records and the trim table are the first bytes of their buffers, and the others stay
abbrev pub accepted : ℕ → List ℕ → List ℕ → Tables → ℕ → Outcome
accepted frame buffer trim t unknown = record {
  answer = accepted_with t.programme t.timing unknown;
  buffer = onto (laid_records frame t) buffer;
  trim = onto (trim_bytes_of t.trim) trim;
}

-- the bytes that the records take
abbrev pub needed : Tables → ℕ
needed t = record_stride * (t.programme.objects * t.timing.blocks)

-- the room is looked at last of all: that for the records, then that for the trim table
unfoldable pub housed : ℕ → List ℕ → List ℕ → Tables → ℕ → Outcome
housed frame buffer trim t unknown =
    pick (leb (needed t) (length buffer))
    (pick (leb (trim_needed t.programme.objects) (length trim)) (accepted frame buffer trim t unknown)
    (refused buffer trim (number_of Room) (trim_needed t.programme.objects) 0))
    (refused buffer trim (number_of Room) (needed t) 0)

abbrev pub answered : ℕ → List ℕ → List ℕ → Res Payload → Outcome
answered frame buffer trim (ok q to) = housed frame buffer trim (tables q.programme q.known) q.unknown
answered frame buffer trim (no number place missing) = refused buffer trim number place (missing_of number missing)

-- the length is looked at first of all
unfoldable pub reading : ℕ → List ℕ → List ℕ → List ℕ → Outcome
reading frame s buffer trim =
    pick (leb (length s) most_bytes)
    (answered frame buffer trim (run object_audio_metadata_payload (bit s) 0 (8 * length s) past_payload))
    (refused buffer trim (number_of TooLong) (length s) 0)
