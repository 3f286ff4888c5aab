-- What the theorems promise, as records and under names.
use Rattle.std.specs.Prelude.{◌≡◌, Bool, true, false, List, ◌∷◌, ◌++◌, ℕ, ◌+◌, ◌*◌, ◌%◌, ◌^◌, ◌≤◌, ◌<◌, length, get_or, take, drop}
use Rattle.std.proofs.Math.Option.{some}
use Rattle.bits.specs.declared.Refusal.TheVariants.{EndsEarly, TooLong}
use Rattle.bits.specs.Refusals.{number_of}
use Rattle.bits.specs.Writes.{Binary}
use Rattle.bits.specs.Terms.{Every}
use Rattle.oamd.specs.declared.Bed.{Bed}
use Rattle.oamd.specs.declared.Update.{Update}
use Rattle.oamd.specs.declared.ReadAnswer.{ReadAnswer}
use Rattle.oamd.specs.declared.Kind.TheVariants.{Unknown}
use Rattle.oamd.specs.Tables.{most_bytes, most_elements, most_beds, most_blocks, record_bytes, time_bytes, record_stride, frame_samples, trim_configs, answer_bytes}
use Rattle.oamd.specs.LeastFirst.{least_first, least_at}
use Rattle.oamd.specs.Timing.{no_update}
use Rattle.oamd.specs.Trim.{TrimTable, trim_bytes_of, trim_needed}
use Rattle.oamd.specs.Record.{Record}
use Rattle.oamd.specs.Time.{time_of, timed_bytes_of}
use Rattle.oamd.specs.Element.{there}
use Rattle.oamd.specs.Payload.{Header, Payload}
use Rattle.oamd.specs.Answer.{Outcome, refused, reading}
use Rattle.oamd.specs.Batch.{answer_bytes_of, entry, Shelf, Batched, batching}
use Rattle.demands.specs.Skeleton.{Body, outline, SameTables}
use Rattle.demands.specs.Assembly.{Head, Element, payload_of}

-- ---- the answer and the buffers

-- The first n bytes of a buffer have become these, and the others are as they came.
pub record Fronts (n : ℕ) (these before after : List ℕ) : Type 0 where
  pub long : length these ≡ n
  pub fits : n ≤ length before
  pub front : take n after ≡ these
  pub rest : drop n after ≡ drop n before

-- Accepted: refusal 0, place 0 and no missing bits. The first bytes of the buffer are the records, 32 bytes for each object and block, each with its time behind it.
-- Those of the trim buffer are the trim table, 94 bytes and one for each object: it has nine configurations, and a flag for each object.
pub record Accepts (frame : ℕ) (buffer trim : List ℕ) (o : Outcome) : Type 0 where
  pub refusal : o.answer.refusal ≡ 0
  pub place : o.answer.place ≡ 0
  pub missing : o.answer.missing ≡ 0
  pub records : List Record
  pub many : length records ≡ o.answer.programme.objects * o.answer.timing.blocks
  pub recorded : Fronts (record_stride * length records) (timed_bytes_of (time_of frame o.answer.timing) 0 records) buffer o.buffer
  pub table : TrimTable
  pub configs : length table.configs ≡ trim_configs
  pub flags : length table.disabled ≡ o.answer.programme.objects
  pub trimmed : Fronts (trim_needed o.answer.programme.objects) (trim_bytes_of table) trim o.trim

-- Refused: a number from 1 to 9 and a place, with 2 one missing bit or more, all else 0, and both buffers as they came.
pub record Refuses (buffer trim : List ℕ) (o : Outcome) : Type 0 where
  pub number : ℕ
  pub low : 1 ≤ number
  pub high : number ≤ 9
  pub place : ℕ
  pub missing : ℕ
  pub some : number ≡ number_of EndsEarly → 1 ≤ missing
  pub none : (number ≡ number_of EndsEarly → ⊥) → missing ≡ 0
  pub outcome : o ≡ refused buffer trim number place missing

-- ---- absolute time

-- how many records an answer has
abbrev pub many_records : ReadAnswer → ℕ
many_records a = a.programme.objects * a.timing.blocks

-- when record i starts: 1,536 samples for each frame before this one, and the start of its block
abbrev pub starts_at : ℕ → ReadAnswer → ℕ → ℕ
starts_at frame a i = frame * frame_samples + (get_or a.timing.updates (i % a.timing.blocks) no_update).start.0

-- Bytes 24 to 31 of each record are that time, the least byte first. As a number they are it, up to the most that 64 bits hold.
pub record Timed (frame : ℕ) (o : Outcome) : Type 0 where
  pub bytes : (i k : ℕ) → i < many_records o.answer → k < time_bytes
      → get_or o.buffer (record_stride * i + record_bytes + k) 0 ≡ get_or (least_first time_bytes (starts_at frame o.answer i)) k 0
  pub number : (i : ℕ) → i < many_records o.answer → starts_at frame o.answer i < 2 ^ 64
      → least_at time_bytes o.buffer (record_stride * i + record_bytes) ≡ starts_at frame o.answer i

-- byte n of the record buffer is one of a time: the read is accepted, and the byte is one from 24 to 31 of a record
pub record TimeByte (o : Outcome) (n : ℕ) : Type 0 where
  pub accepted : o.answer.refusal ≡ 0
  pub laid : n < record_stride * many_records o.answer
  pub behind : record_bytes ≤ n % record_stride

-- The same answer, the same trim buffer, record buffers as long, and each byte of these the same that is none of a time.
pub record Aside (o o' : Outcome) : Type 0 where
  pub answer : o'.answer ≡ o.answer
  pub trim : o'.trim ≡ o.trim
  pub long : length o'.buffer ≡ length o.buffer
  pub bytes : (n : ℕ) → (TimeByte o n → ⊥) → get_or o'.buffer n 0 ≡ get_or o.buffer n 0

-- ---- the numbers of an accepted payload

-- 1 to 8 blocks with an object element, and none without
pub record BlocksBy (object : Bool) (blocks : ℕ) : Type 0 where
  pub with : object ≡ true → (1 ≤ blocks) × (blocks ≤ 8)
  pub without : object ≡ false → blocks ≡ 0

-- what an accepted read answers, beside the payload as read
pub record Numbers (q : Payload) (o : Outcome) : Type 0 where
  pub objects : (1 ≤ o.answer.programme.objects) × (o.answer.programme.objects ≤ 159)
  pub blocks : BlocksBy (there q.known.object) o.answer.timing.blocks
  pub unknown : o.answer.unknown ≤ 46

-- ---- more and less data

-- the frames of the bytes s are read as this header and these elements, in this order
abbrev pub Carries : List ℕ → Header → List Body → Type 0
Carries s h elements = outline s ≡ some (record { header = h; elements = elements })

-- Let a payload with the header h and the elements es be accepted. Then that with the elements es', up to 46 of them and up to 4,096 bytes, and with
-- whatever padding, is accepted with the same tables and the same buffers.
abbrev pub Keeps : (frame : ℕ) (h : Head) (es es' : List (Element h.is.alternate)) → Type 0
Keeps frame h es es' =
    (padding padding' buffer trim : List ℕ) → Binary padding → Binary padding' → length es ≤ most_elements → length es' ≤ most_elements
    → length (payload_of h es' padding') ≤ most_bytes → (reading frame (payload_of h es padding) buffer trim).answer.refusal ≡ 0
    → SameTables (reading frame (payload_of h es' padding') buffer trim) (reading frame (payload_of h es padding) buffer trim)

-- A payload s is changed into s': bytes are appended, or cut off behind any byte; or, with the same header and the other elements as they were, an unknown
-- element is added anywhere, one is removed, or one is altered: it has other bits, and is as long or not.
pub data Change (s s' : List ℕ) : Type 0 where
  append : (t : List ℕ) → s' ≡ s ++ t → Change s s'
  cut : (n : ℕ) → s' ≡ take n s → Change s s'
  add : (h : Header) (before behind : List Body) (u : Body) → u.kind ≡ Unknown → Carries s h (before ++ behind) → Carries s' h (before ++ (u ∷ behind))
      → Change s s'
  remove : (h : Header) (before behind : List Body) (u : Body) → u.kind ≡ Unknown → Carries s h (before ++ (u ∷ behind)) → Carries s' h (before ++ behind)
      → Change s s'
  alter : (h : Header) (before behind : List Body) (u u' : Body) → u.kind ≡ Unknown → u'.kind ≡ Unknown → Carries s h (before ++ (u ∷ behind))
      → Carries s' h (before ++ (u' ∷ behind)) → Change s s'

-- What a read of s' gives, beside that of s: the same tables and the same buffers. Or, of s cut off, that it ends early; or, of more than 4,096 bytes, that it
-- is too long; and both buffers are then as they came.
pub data After (frame : ℕ) (s s' buffer trim : List ℕ) : Type 0 where
  same : SameTables (reading frame s' buffer trim) (reading frame s buffer trim) → After frame s s' buffer trim
  ends-early : (n place missing : ℕ) → s' ≡ take n s → 1 ≤ missing → reading frame s' buffer trim ≡ refused buffer trim (number_of EndsEarly) place missing
      → After frame s s' buffer trim
  too_long : most_bytes < length s' → reading frame s' buffer trim ≡ refused buffer trim (number_of TooLong) (length s') 0 → After frame s s' buffer trim

-- ---- a shelf of payloads

-- what a batch is called with
pub record Call : Type 0 where
  pub store : List ℕ
  pub starts : List ℕ
  pub lengths : List ℕ
  pub frames : List ℕ
  pub recordslot : ℕ
  pub trimslot : ℕ
  pub shelf : Shelf

-- what it answers, and what the lent buffers hold afterwards
abbrev pub batched : Call → Batched
batched c = batching c.store c.starts c.lengths c.frames c.recordslot c.trimslot c.shelf

-- a length and a frame for each start, and room for a slot of each sort and a place for each of them
pub record Roomy (c : Call) : Type 0 where
  pub lists : length c.lengths ≡ length c.starts
  pub frames : length c.frames ≡ length c.starts
  pub records : length c.starts * c.recordslot ≤ length c.shelf.records
  pub trims : length c.starts * c.trimslot ≤ length c.shelf.trims
  pub places : length c.starts * answer_bytes ≤ length c.shelf.answers

-- slot i of those of one size
abbrev pub slot : ℕ → ℕ → List ℕ → List ℕ
slot size i s = take size (drop (i * size) s)

-- the start, the length and the frame of entry i
abbrev pub start_of : Call → ℕ → ℕ
start_of c i = get_or c.starts i 0

abbrev pub length_of : Call → ℕ → ℕ
length_of c i = get_or c.lengths i 0

abbrev pub frame_of : Call → ℕ → ℕ
frame_of c i = get_or c.frames i 0

-- the payload of entry i
abbrev pub payload_at : Call → ℕ → List ℕ
payload_at c i = take (length_of c i) (drop (start_of c i) c.store)

-- what entry i comes to by itself, in its slots as they came
abbrev pub entry_of : Call → ℕ → Outcome
entry_of c i =
    entry (frame_of c i) c.store (start_of c i) (length_of c i) (slot c.recordslot i c.shelf.records) (slot c.trimslot i c.shelf.trims)

-- afterwards the place of entry i holds this answer, and its slots these bytes
pub record Holds (c : Call) (i : ℕ) (o : Outcome) : Type 0 where
  pub place : slot answer_bytes i (batched c).shelf.answers ≡ answer_bytes_of o.answer
  pub records : slot c.recordslot i (batched c).shelf.records ≡ o.buffer
  pub trim : slot c.trimslot i (batched c).shelf.trims ≡ o.trim

-- the bytes behind the last slot of each sort, and behind the last place, are as they came
pub record Beyond (c : Call) : Type 0 where
  pub records : drop (length c.starts * c.recordslot) (batched c).shelf.records ≡ drop (length c.starts * c.recordslot) c.shelf.records
  pub trims : drop (length c.starts * c.trimslot) (batched c).shelf.trims ≡ drop (length c.starts * c.trimslot) c.shelf.trims
  pub answers : drop (length c.starts * answer_bytes) (batched c).shelf.answers ≡ drop (length c.starts * answer_bytes) c.shelf.answers

-- an entry of a call that is not refused, whose payload lies in the store
pub record Stored (c : Call) (i : ℕ) : Type 0 where
  pub roomy : Roomy c
  pub listed : i < length c.starts
  pub inside : start_of c i + length_of c i ≤ length c.store

-- the fields of an answer fit their types, and its arrays have their lengths
pub record InTypes (a : ReadAnswer) : Type 0 where
  pub place : a.place < 2 ^ 64
  pub missing : a.missing < 2 ^ 32
  pub nine : length a.programme.beds ≡ most_beds
  pub beds : Every (λ (b : Bed). b.assignment < 2 ^ 32) a.programme.beds
  pub eight : length a.timing.updates ≡ most_blocks
  pub updates : Every (λ (u : Update). (u.start.0 < 2 ^ 16) × (u.ramp.0 < 2 ^ 16)) a.timing.updates
