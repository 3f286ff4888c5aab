-- What a write answers, and what the lent buffer holds afterwards, for all tables, all frame numbers, all record bytes, all bytes of a trim table and all buffers.
use Rattle.std.specs.Prelude.{Bool, List, [], ◌∷◌, ℕ, zero, suc, ◌+◌, min, leb, ltb, length, get_or}
use Rattle.bits.specs.declared.Refusal.TheVariants.{NotValid, NoFit}
use Rattle.bits.specs.Refusals.{number_of}
use Rattle.bits.specs.Language.{pick}
use Rattle.oamd.specs.declared.Programme.{Programme}
use Rattle.oamd.specs.declared.Timing.{Timing}
use Rattle.oamd.specs.declared.TrimConfig.{TrimConfig}
use Rattle.oamd.specs.declared.WriteAnswer.{WriteAnswer}
use Rattle.oamd.specs.Tables.{most_bytes, trim_configs, config_bytes, trim_head, per_object_byte, trim_fixed}
use Rattle.oamd.specs.Programme.{shares}
use Rattle.oamd.specs.Trim.{TrimTable, trim_needed}
use Rattle.oamd.specs.Record.{onto}
use Rattle.oamd.specs.Payload.{Tables}
use Rattle.oamd.specs.Time.{time_of}
use Rattle.oamd.specs.Answer.{needed}
use Rattle.record.specs.Bytes.{bytes_at, records_at, times_at}
use Rattle.form.specs.Valid.{◌and◌, programme_valid, timing_valid, first_bad, first_mistimed, trim_valid, record_count}
use Rattle.form.specs.Form.{form}

-- ---- the tables of a programme, a timing, record bytes and the bytes of a trim table

-- the trim configuration that begins at a byte
unfoldable pub config_at : List ℕ → ℕ → TrimConfig
config_at s at = record {
  bydefault = get_or s at 0;
  disabled = get_or s (at + 1) 0;
  presence = get_or s (at + 2) 0;
  centre = get_or s (at + 3) 0;
  surround = get_or s (at + 4) 0;
  height = get_or s (at + 5) 0;
  tbsign = get_or s (at + 6) 0;
  tbamount = get_or s (at + 7) 0;
  lissign = get_or s (at + 8) 0;
  lisamount = get_or s (at + 9) 0;
}

-- n of them
unfoldable pub configs_at : List ℕ → ℕ → ℕ → List TrimConfig
configs_at s zero at = []
configs_at s (suc n) at = config_at s at ∷ configs_at s n (at + config_bytes)

-- the trim table of so many objects
unfoldable pub trim_at : ℕ → List ℕ → TrimTable
trim_at objects s = record {
  present = get_or s 0 0;
  warp = get_or s 1 0;
  mode = get_or s 2 0;
  configs = configs_at s trim_configs trim_head;
  per-object = get_or s per_object_byte 0;
  disabled = bytes_at s objects trim_fixed;
}

abbrev pub tables_of : Programme → Timing → List ℕ → List ℕ → Tables
tables_of p t s x = record { programme = p; timing = t; records = records_at s (record_count p t) 0; trim = trim_at p.objects x }

-- ---- the answer

-- the answer, and the lent buffer afterwards
pub record Written : Type 0 where
  pub answer : WriteAnswer
  pub out : List ℕ

abbrev pub refused_write : ℕ → ℕ → WriteAnswer
refused_write number place = record { place = place; length = record { 0 = 0 }; refusal = number }

-- refused, the buffer is as it came
abbrev pub refused_to : List ℕ → ℕ → ℕ → Written
refused_to out number place = record { answer = refused_write number place; out = out }

-- accepted, the payload is the first bytes of the buffer, and the others stay
abbrev pub written_to : List ℕ → List ℕ → Written
written_to out payload = record { answer = record { place = 0; length = record { 0 = length payload }; refusal = 0 }; out = onto payload out }

-- the room is looked at last of all
unfoldable pub fitted : List ℕ → List ℕ → Written
fitted out payload =
    pick (leb (length payload) (length out) and leb (length payload) most_bytes) (written_to out payload) (refused_to out (number_of NoFit) (length payload))

-- the trim table, before the room: there is all of it, and it is valid
unfoldable pub trimmed : List ℕ → Tables → Bool → Written
trimmed out t whole =
    pick (whole and trim_valid t.programme.objects t.trim) (fitted out (form t))
    (refused_to out (number_of NotValid) (1 + record_count t.programme t.timing))

-- the first record that is bad by its class and its own bytes, or the first whose time is not that of its block in this frame, whichever comes first
unfoldable pub first_refused : ℕ → Programme → Timing → List ℕ → ℕ
first_refused frame p t s =
    min (first_bad (shares p) t.blocks 0 (records_at s (record_count p t) 0)) (first_mistimed (time_of frame t) 0 (times_at s (record_count p t) 0))

-- the records, before the trim table
unfoldable pub judged : List ℕ → Tables → ℕ → Bool → Written
judged out t bad whole =
    pick (ltb bad (record_count t.programme t.timing)) (refused_to out (number_of NotValid) (1 + bad)) (trimmed out t whole)

-- programme, timing and how many record bytes there are, first of all; s are the record bytes, x those of the trim table
unfoldable pub writing : ℕ → Programme → Timing → List ℕ → List ℕ → List ℕ → Written
writing frame p t s x out =
    pick (programme_valid p and timing_valid t and leb (needed (tables_of p t s x)) (length s))
    (judged out (tables_of p t s x) (first_refused frame p t s) (leb (trim_needed p.objects) (length x)))
    (refused_to out (number_of NotValid) 0)
