-- What the theorems promise, as records and under names.
use Rattle.std.specs.Prelude.{◌≡◌, true, List, [], ◌∷◌, ◌++◌, ℕ, ◌+◌, ◌*◌, ◌/◌, ◌≤◌, ◌<◌, length, get_or, take}
use Rattle.bits.specs.Language.{ok}
use Rattle.oamd.specs.declared.Programme.{Programme}
use Rattle.oamd.specs.declared.Timing.{Timing}
use Rattle.oamd.specs.Tables.{most_bytes, record_bytes, record_stride}
use Rattle.oamd.specs.Programme.{shares, class_of}
use Rattle.oamd.specs.Timing.{no_update}
use Rattle.oamd.specs.Trim.{TrimTable, trim_bytes_of, trim_needed}
use Rattle.oamd.specs.Record.{Record, divergence_bytes, precise_bytes}
use Rattle.oamd.specs.Time.{time_of, time_bytes_of}
use Rattle.oamd.specs.Payload.{Payload, Tables, tables}
use Rattle.oamd.specs.Answer.{Outcome, needed}
use Rattle.demands.specs.Terms.{parsed}
use Rattle.form.specs.Valid.{timing_valid, record_valid, trim_valid, record_count, Valid}
use Rattle.form.specs.Form.{form}
use Rattle.record.specs.Bytes.{record_at, time_at}
use Rattle.form.specs.Answer.{trim_at, tables_of, written_to, writing}

-- ---- what is read

-- the bytes s are read as the tables t, and none of their elements is unknown
pub record ReadAs (s : List ℕ) (t : Tables) : Type 0 where
  pub payload : Payload
  pub end : ℕ
  pub reads : parsed s ≡ ok payload end
  pub same : tables payload.programme payload.known ≡ t
  pub unknown : payload.unknown ≡ 0

-- the tables that a read has given: the programme and the timing of its answer, and the bytes in its buffers
abbrev pub tables_given : Outcome → Tables
tables_given o = tables_of o.answer.programme o.answer.timing o.buffer o.trim

-- what a read has answered, and what it has laid into its buffers
pub record ValidRead (o : Outcome) : Type 0 where
  -- record i of them, by the class of its object
  pub records : (i : ℕ) → i < record_count o.answer.programme o.answer.timing
      → record_valid (class_of (shares o.answer.programme) (i / o.answer.timing.blocks)) (record_at o.buffer (record_stride * i)) ≡ true
  pub timing : timing_valid o.answer.timing ≡ true
  pub trim : trim_valid o.answer.programme.objects (trim_at o.answer.programme.objects o.trim) ≡ true

-- ---- ranges

-- what the bytes of a record that the payload gives are at the most, by their place in it
abbrev pub most_byte : List ℕ
most_byte = 1 ∷ 2 ∷ 65 ∷ 32 ∷ 62 ∷ 62 ∷ 79 ∷ 17 ∷ 31 ∷ 31 ∷ 31 ∷ 5 ∷ 1 ∷ 1 ∷ 7 ∷ 3 ∷ 1 ∷ 1 ∷ 2 ∷ 63 ∷ 7 ∷ 3 ∷ 3 ∷ 3 ∷ []

-- a record, byte by byte
pub record InRange (r : Record) : Type 0 where
  pub active : r.scene.active ≤ 1
  pub class : r.scene.class ≤ 2
  pub gain : r.scene.gain ≤ 65
  pub priority : r.scene.priority ≤ 32
  pub x : r.scene.location.x ≤ 62
  pub y : r.scene.location.y ≤ 62
  pub z : (49 ≤ r.scene.location.z) × (r.scene.location.z ≤ 79)
  pub distance : r.scene.location.distance ≤ 17
  pub width : r.scene.volume.width ≤ 31
  pub depth : r.scene.volume.depth ≤ 31
  pub height : r.scene.volume.height ≤ 31
  pub zone : r.scene.zone.index ≤ 5
  pub elevation : r.scene.zone.elevation ≤ 1
  pub screen : r.scene.screen.used ≤ 1
  pub factor : r.scene.screen.factor ≤ 7
  pub depth-index : r.scene.screen.depth ≤ 3
  pub snap : r.scene.snap ≤ 1
  pub divergence : r.divergence.used ≤ 1
  pub mode : r.divergence.mode ≤ 2
  pub value : r.divergence.value ≤ 63
  pub presence : r.precise.presence ≤ 7
  pub code-x : r.precise.x ≤ 3
  pub code-y : r.precise.y ≤ 3
  pub code-z : r.precise.z ≤ 3

-- an update, used or not
pub record UpdatesInRange (t : Timing) : Type 0 where
  pub eight : length t.updates ≡ 8
  pub starts : (i : ℕ) → i < t.blocks → (get_or t.updates i no_update).start.0 ≤ 2047
  pub ramps : (i : ℕ) → i < t.blocks → (get_or t.updates i no_update).ramp.0 ≤ 2048
  pub unused : (i : ℕ) → t.blocks ≤ i → i < 8 → get_or t.updates i no_update ≡ no_update

-- byte k of record i, and all bytes that were laid, those of the times too
pub record ReadInRange (o : Outcome) : Type 0 where
  pub records : (i : ℕ) → i < record_count o.answer.programme o.answer.timing → InRange (record_at o.buffer (record_stride * i))
  pub bytes : (i k : ℕ) → i < record_count o.answer.programme o.answer.timing → k < record_bytes
      → get_or o.buffer (record_stride * i + k) 0 ≤ get_or most_byte k 0
  pub updates : UpdatesInRange o.answer.timing
  pub laid : (n : ℕ) → n < record_stride * record_count o.answer.programme o.answer.timing → get_or o.buffer n 0 < 256
  pub trim-laid : (n : ℕ) → n < trim_needed o.answer.programme.objects → get_or o.trim n 0 < 256

-- ---- what some payload gives

-- Some accepted payload gives tables of which Q holds: its bytes, no more than one may have, and what is read of them
pub record GivenBy (Q : Tables → Type 0) : Type 0 where
  pub bytes : List ℕ
  pub short : length bytes ≤ most_bytes
  pub payload : Payload
  pub end : ℕ
  pub reads : parsed bytes ≡ ok payload end
  pub gives : Q (tables payload.programme payload.known)

-- this record first
abbrev pub RecordGivenBy : Record → Type 0
RecordGivenBy r = GivenBy (λ t. (others : List Record) × (t.records ≡ r ∷ others))

-- this programme, and a trim table of which Q holds
abbrev pub TrimGiven : Programme → (TrimTable → Type 0) → Type 0
TrimGiven p Q = GivenBy (λ t. (t.programme ≡ p) × Q t.trim)

-- this trim table
abbrev pub TrimGivenBy : Programme → TrimTable → Type 0
TrimGivenBy p x = TrimGiven p (λ t. t ≡ x)

-- the trim table that has these bytes
abbrev pub TrimBytesGivenBy : Programme → List ℕ → Type 0
TrimBytesGivenBy p s = TrimGiven p (λ t. trim_bytes_of t ≡ take (trim_needed p.objects) s)

-- ---- what is written

-- the time bytes of record k are those of its time, in this frame
abbrev pub OnTime : ℕ → Timing → List ℕ → ℕ → Type 0
OnTime frame t s k = time_at s (record_stride * k) ≡ time_bytes_of (time_of frame t k)

-- those of all records are
abbrev pub AllOnTime : ℕ → Programme → Timing → List ℕ → Type 0
AllOnTime frame p t s = (k : ℕ) → k < record_count p t → OnTime frame t s k

-- record i is the first whose time bytes are not
pub record Mistimed (frame : ℕ) (p : Programme) (t : Timing) (s : List ℕ) (i : ℕ) : Type 0 where
  pub many : i < record_count p t
  pub before : (k : ℕ) → k < i → OnTime frame t s k
  pub here : OnTime frame t s i → ⊥

-- its tables are valid, there are bytes enough for them, its records are on time, and it has written their form
pub record Accepts (frame : ℕ) (p : Programme) (t : Timing) (s x out : List ℕ) : Type 0 where
  pub valid : Valid (tables_of p t s x)
  pub timed : AllOnTime frame p t s
  pub enough : needed (tables_of p t s x) ≤ length s
  pub trim-enough : trim_needed p.objects ≤ length x
  pub room : length (form (tables_of p t s x)) ≤ length out
  pub short : length (form (tables_of p t s x)) ≤ most_bytes
  pub written : writing frame p t s x out ≡ written_to out (form (tables_of p t s x))

-- bytes 17 to 23
abbrev pub carried_bytes : Record → List ℕ
carried_bytes r = divergence_bytes r.divergence ++ precise_bytes r.precise
