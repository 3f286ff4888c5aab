-- What each private function of the reader promises.
use Rattle.std.specs.Prelude.{◌≡◌, Bool, true, false, not, List, [], ◌∷◌, ◌++◌, ℕ, ◌+◌, ◌*◌, ◌≤◌, ◌<◌, length, replicate}
use Rattle.std.proofs.Math.Option.{Option, none}
use Rattle.bits.specs.declared.Cur.{Cur}
use Rattle.bits.specs.declared.Limit.{Limit}
use Rattle.bits.specs.declared.Refusal.TheVariants.{Room}
use Rattle.bits.specs.declared.Step.{Step}
use Rattle.bits.specs.Refusals.{number_of}
use Rattle.bits.specs.Language.{P, Bits, bits, when, each, for, bit}
use Rattle.bits.specs.View.{Reads}
use Rattle.oamd.specs.declared.Block.{Block}
use Rattle.oamd.specs.declared.Divergence.{Divergence}
use Rattle.oamd.specs.declared.Kind.{Kind}
use Rattle.oamd.specs.declared.Kind.TheVariants.{Unknown, Object, Trim, Extended}
use Rattle.oamd.specs.declared.Precise.{Precise}
use Rattle.oamd.specs.declared.Programme.{Programme}
use Rattle.oamd.specs.declared.ReadAnswer.{ReadAnswer}
use Rattle.oamd.specs.declared.Scene.{Scene}
use Rattle.oamd.specs.declared.Shares.{Shares}
use Rattle.oamd.specs.declared.Timing.{Timing}
use Rattle.oamd.specs.Tables.{most_bytes, record_bytes, most_blocks, most_objects, trim_configs, config_bytes, trim_head, trim_fixed, most_trim}
use Rattle.oamd.specs.Programme.{shares, class_of}
use Rattle.oamd.specs.Timing.{MdUpdateInfo, md_update_info, timing_of}
use Rattle.oamd.specs.ObjectElement.{ObjectElement, object_data, object_element}
use Rattle.oamd.specs.Extended.{Extension, extended_object_element}
use Rattle.oamd.specs.Trim.{TrimTable, trim_config, no_config, trim_element, trim_of, configs_bytes_of, trim_bytes_of, trim_needed}
use Rattle.oamd.specs.Meaning.{all_scenes, nothing_before}
use Rattle.oamd.specs.Record.{Record, record_of, carries, all_carry, plain_records, extended_records, bytes_of, onto}
use Rattle.oamd.specs.Element.{head_length, Known, there, scenes, is_second, is_early, fields, read_known, oa_element, oa_element_md, elements}
use Rattle.oamd.specs.Payload.{header, object_audio_metadata_payload, timing, no_timing, records}
use Rattle.oamd.specs.Answer.{refused_with}
use Rattle.reader.specs.declared.Header.{Header}
use Rattle.reader.specs.declared.Parsed.{Parsed}
use Rattle.reader.specs.declared.Scope.{Scope}
use Rattle.reader.specs.declared.State.{State}
use Rattle.reader.specs.Layout.{no_trim_bytes}
use Rattle.reader.specs.Rooms.{ElementRoom}
use Rattle.reader.specs.Running.{with_blocks}

-- ---- the object element

pub record TimingRead (b : Bits) (c : Cur) (l : Limit) (r : Step Timing) : Type 0 where
  pub value : MdUpdateInfo
  pub reads : Reads md_update_info b c l value r.cur
  pub holds : r.value ≡ timing_of value
  pub counts : r.value.blocks ≡ length value.blocks
  pub some : 1 ≤ r.value.blocks
  pub few : r.value.blocks ≤ most_blocks

-- the records of scenes stand at the front of the bytes t
abbrev pub Standing : List Scene → List ℕ → List ℕ → Type 0
Standing ss t out = out ≡ onto (bytes_of (plain_records ss)) t

-- whatever scenes stand before it, those of the object's blocks stand behind them, unless something was refused
pub record ObjectRead (class blocks at : ℕ) (b : Bits) (c : Cur) (l : Limit) (out : List ℕ) (d : Cur) (out' : List ℕ) : Type 0 where
  pub value : List Block
  pub reads : Reads (object_data blocks class) b c l value d
  pub long : length value ≡ blocks
  pub size : length out' ≡ length out
  pub stand : d.no ≡ 0 → (ss : List Scene) (t : List ℕ) → Standing ss t out → at ≡ record_bytes * length ss → length t ≡ length out
      → Standing (with_blocks blocks ss nothing_before value) t out'

pub record ObjectsRead (n : ℕ) (s : Shares) (blocks : ℕ) (b : Bits) (c : Cur) (l : Limit) (out : List ℕ) (d : Cur) (out' : List ℕ) : Type 0 where
  pub value : List (List Block)
  pub reads : Reads (for n (λ j. object_data blocks (class_of s j))) b c l value d
  pub size : length out' ≡ length out
  pub many : d.no ≡ 0 → length (all_scenes [] value) ≡ n * blocks
  pub stand : d.no ≡ 0 → Standing (all_scenes [] value) out out'

pub record ElementRead (n : ℕ) (s : Shares) (b : Bits) (c : Cur) (l : Limit) (out : List ℕ) (r : Step Timing) (out' : List ℕ) : Type 0 where
  pub value : ObjectElement
  pub reads : Reads (object_element n s) b c l value r.cur
  pub holds : r.value ≡ timing_of value.timing
  pub few : r.value.blocks ≤ most_blocks
  pub size : length out' ≡ length out
  pub many : r.cur.no ≡ 0 → length (all_scenes [] value.objects) ≡ n * r.value.blocks
  pub stand : r.cur.no ≡ 0 → Standing (all_scenes [] value.objects) out out'

-- ---- the extended element

-- a value of the extended element, put into a record
abbrev pub with_divergence : Record → Divergence → Record
with_divergence r d = record_of r.scene d r.precise

abbrev pub with_precise : Record → Precise → Record
with_precise r p = record_of r.scene r.divergence p

-- each record with the value that was read for it
unfoldable pub put : {X : Type 0} → (Record → X → Record) → List Record → List X → List Record
put f [] xs = []
put f (r ∷ rs) [] = r ∷ rs
put f (r ∷ rs) (x ∷ xs) = f r x ∷ put f rs xs

-- which records can carry a value
abbrev pub carriers : List Record → List Bool
carriers [] = []
carriers (r ∷ rs) = carries r.scene ∷ carriers rs

-- what a pass over records gives
pub record Went {X : Type 0} (p : P (List X)) (f : Record → X → Record) (rs : List Record) (b : Bits) (c : Cur) (l : Limit) (t : List ℕ) (d : Cur) (out' : List ℕ) : Type 0 where
  pub value : List X
  pub reads : Reads p b c l value d
  pub stand : d.no ≡ 0 → out' ≡ onto (bytes_of (put f rs value)) t

-- what a function promises that passes over n records, whatever records they are
pub record Passed {X : Type 0} (p : Bool → P X) (f : Record → X → Record) (n : ℕ) (b : Bits) (c : Cur) (l : Limit) (out : List ℕ) (d : Cur) (out' : List ℕ) : Type 0 where
  pub size : length out' ≡ length out
  pub went : (rs : List Record) (t : List ℕ) → (c.no ≡ 0 → out ≡ onto (bytes_of rs) t) → length rs ≡ n
      → Went (each p (carriers rs)) f rs b c l t d out'

-- the same where a flag says that there is anything to read; else each value is none
pub record PassedIf {X : Type 0} (on : Bool) (p : Bool → P X) (f : Record → X → Record) (none : X) (n : ℕ) (b : Bits) (c : Cur) (l : Limit) (out : List ℕ) (d : Cur) (out' : List ℕ) : Type 0 where
  pub size : length out' ≡ length out
  pub went : (rs : List Record) (t : List ℕ) → (c.no ≡ 0 → out ≡ onto (bytes_of rs) t) → length rs ≡ n → put f rs (replicate n none) ≡ rs
      → Went (when on (each p (carriers rs)) (replicate n none)) f rs b c l t d out'

-- what the extended element gives, whatever scenes stand
pub record Extending (ss : List Scene) (b : Bits) (c : Cur) (l : Limit) (t : List ℕ) (d : Cur) (out' : List ℕ) : Type 0 where
  pub value : Extension
  pub reads : Reads (extended_object_element (all_carry ss)) b c l value d
  pub full : d.no ≡ 0 → length (extended_records ss value.divergence value.precise) ≡ length ss
  pub stand : d.no ≡ 0 → out' ≡ onto (bytes_of (extended_records ss value.divergence value.precise)) t

pub record ExtendedRead (n : ℕ) (b : Bits) (c : Cur) (l : Limit) (out : List ℕ) (d : Cur) (out' : List ℕ) : Type 0 where
  pub size : length out' ≡ length out
  pub went : (ss : List Scene) (t : List ℕ) → Standing ss t out → length ss ≡ n → Extending ss b c l t d out'

-- ---- the trim element

-- a list is read and its n bytes are laid out behind `from` bytes, whatever these are, where all was 0
pub record PartRead {X : Type 0} (p : P (List X)) (bytes : List X → List ℕ) (n from : ℕ) (b : Bits) (c : Cur) (l : Limit) (out : List ℕ) (d : Cur) (out' : List ℕ) : Type 0 where
  pub value : List X
  pub reads : Reads p b c l value d
  pub long : length (bytes value) ≡ n
  pub size : length out' ≡ most_trim
  pub stand : (front : List ℕ) → length front ≡ from → out ≡ onto front no_trim_bytes → out' ≡ onto (front ++ bytes value) no_trim_bytes

abbrev pub ConfigsRead : Bool → Bits → Cur → Limit → List ℕ → Cur → List ℕ → Type 0
ConfigsRead on b c l out d out' =
    PartRead (when on (for trim_configs (λ cfg. trim_config)) (replicate trim_configs no_config)) configs_bytes_of (config_bytes * trim_configs) trim_head b c l out d out'

abbrev pub FlagsRead : Bool → ℕ → Bits → Cur → Limit → List ℕ → Cur → List ℕ → Type 0
FlagsRead on n b c l out d out' = PartRead (when on (for n (λ obj. bits 1)) (replicate n 0)) (λ flags. flags) n trim_fixed b c l out d out'

pub record TrimRead (objects : ℕ) (b : Bits) (c : Cur) (l : Limit) (out : List ℕ) (d : Cur) (out' : List ℕ) : Type 0 where
  pub value : TrimTable
  pub reads : Reads (trim_element objects) b c l value d
  pub long : length (trim_bytes_of value) ≡ trim_needed objects
  pub size : length out' ≡ most_trim
  pub stand : out ≡ no_trim_bytes → out' ≡ onto (trim_bytes_of value) no_trim_bytes

-- ---- the elements: what has been read of them

-- the bytes into which the elements are laid out: the records, and the trim table
pub record Buffers : Type 0 where
  pub out : List ℕ
  pub table : List ℕ

abbrev pub lent : List ℕ → List ℕ → Buffers
lent out table = record { out = out; table = table }

-- each has room for so many objects
pub record Sized (objects : ℕ) (held : Buffers) : Type 0 where
  pub out : ElementRoom objects held.out
  pub table : length held.table ≡ most_trim

-- before the first element
abbrev pub nothing_read : State
nothing_read = record { timing = no_timing; object = false; trim = false; extended = false; unknown = 0 }

-- the state with one part of it anew: an updater for each kind, and the only places that name all parts
abbrev pub object_seen : Timing → State → State
object_seen tm st = record { timing = tm; object = true; trim = st.trim; extended = st.extended; unknown = st.unknown }

abbrev pub trim_seen : State → State
trim_seen st = record { timing = st.timing; object = st.object; trim = true; extended = st.extended; unknown = st.unknown }

abbrev pub extended_seen : State → State
extended_seen st = record { timing = st.timing; object = st.object; trim = st.trim; extended = true; unknown = st.unknown }

abbrev pub unknown_seen : State → State
unknown_seen st = record { timing = st.timing; object = st.object; trim = st.trim; extended = st.extended; unknown = st.unknown + 1 }

-- a known element whose kind has been read already, and one that comes too early, as the state tells it
abbrev pub seen : Kind → State → Bool
seen Unknown st = false
seen Object st = st.object
seen Trim st = st.trim
seen Extended st = st.extended

abbrev pub too_early : Kind → State → Bool
too_early Unknown st = false
too_early Object st = false
too_early Trim st = false
too_early Extended st = not st.object

-- what a part of the state and the bytes hold of the object element and of the extended one, read or not, which stand in the same records
pub record RecordsHeld (objects : ℕ) (object : Option ObjectElement) (extended : Option Extension) (t : List ℕ) (tm : Timing) (object_read extended_read : Bool) (out : List ℕ) : Type 0 where
  pub object-told : object_read ≡ there object
  pub extended-told : extended_read ≡ there extended
  pub ordered : object ≡ none → extended ≡ none
  pub timed : tm ≡ timing object
  pub many : length (scenes object) ≡ objects * tm.blocks
  pub full : length (records (scenes object) extended) ≡ length (scenes object)
  pub stand : out ≡ onto (bytes_of (records (scenes object) extended)) t

-- the same of the trim element
pub record TrimHeld (objects : ℕ) (element : Option TrimTable) (read : Bool) (table : List ℕ) : Type 0 where
  pub told : read ≡ there element
  pub long : length (trim_bytes_of (trim_of objects element)) ≡ trim_needed objects
  pub stand : table ≡ onto (trim_bytes_of (trim_of objects element)) no_trim_bytes

-- of all known elements
pub record Holding (objects : ℕ) (known : Known) (t : List ℕ) (st : State) (held : Buffers) : Type 0 where
  pub records : RecordsHeld objects known.object known.extended t st.timing st.object st.extended held.out
  pub trim : TrimHeld objects known.trim st.trim held.table

-- ---- the elements: reading one, and all

-- what is asked where elements are read
pub record Ready (scope : Scope) (held : Buffers) : Type 0 where
  pub objects : scope.objects ≤ most_objects
  pub alternate : scope.alternate < 2
  pub sized : Sized scope.objects held

-- the same with a state, before n elements
pub record Underway (n : ℕ) (scope : Scope) (st : State) (held : Buffers) : Type 0 where
  pub ready : Ready scope held
  pub blocks : st.timing.blocks ≤ most_blocks
  pub unknown : st.unknown + n ≤ 255

-- the bits of an element's head behind its size
pub record HeadLength (alternate n : ℕ) : Type 0 where
  pub is : n ≡ head_length alternate
  pub few : n ≤ 5

-- a state of the definition: the known elements, and the count that the code's state holds
abbrev pub state_of : Known → ℕ → Rattle.oamd.specs.Element.State
state_of known unknown = record { known = known; unknown = unknown }

-- the programme by which the elements are read
abbrev pub Scoped : Programme → Scope → Type 0
Scoped p scope = (p.objects ≡ scope.objects) × (shares p ≡ scope.shares)

-- what reading the fields of a known element gives
pub record Fielded (scope : Scope) (p : P Known) (b : Bits) (c : Cur) (l : Limit) (t : List ℕ) (r : Step State) (held' : Buffers) : Type 0 where
  pub known : Known
  pub reads : Reads p b c l known r.cur
  pub holding : r.cur.no ≡ 0 → Holding scope.objects known t r.value held'

-- what a function promises that reads them, whatever has been read so far, where an element of this kind may come
pub record FieldsRead (k : Kind) (scope : Scope) (st : State) (b : Bits) (c : Cur) (l : Limit) (held : Buffers) (r : Step State) (held' : Buffers) : Type 0 where
  pub sized : Sized scope.objects held'
  pub few : r.value.timing.blocks ≤ most_blocks
  pub same : r.value.unknown ≡ st.unknown
  pub went : (q : Programme) (known : Known) (t : List ℕ) → Scoped q scope → is_second k known ≡ false → is_early k known ≡ false
      → Holding scope.objects known t st held → Fielded scope (fields q k known) b c l t r held'

-- what reading p from a state gives
pub record Went-on (scope : Scope) (p : P Rattle.oamd.specs.Element.State) (b : Bits) (c : Cur) (l : Limit) (t : List ℕ) (r : Step State) (held' : Buffers) : Type 0 where
  pub known : Known
  pub reads : Reads p b c l (state_of known r.value.unknown) r.cur
  pub holding : r.cur.no ≡ 0 → Holding scope.objects known t r.value held'

-- what reads a state from a state
abbrev pub Onward : Type 1
Onward = Programme → Rattle.oamd.specs.Element.State → P Rattle.oamd.specs.Element.State

-- what a function promises that reads p, which are n elements, from a state, whatever has been read so far
pub record Goes_on (n : ℕ) (scope : Scope) (st : State) (p : Onward) (b : Bits) (c : Cur) (l : Limit) (held : Buffers) (r : Step State) (held' : Buffers) : Type 0 where
  pub sized : Sized scope.objects held'
  pub few : r.value.timing.blocks ≤ most_blocks
  pub next : r.value.unknown ≤ st.unknown + n
  pub went : (q : Programme) (known : Known) (t : List ℕ) → Scoped q scope → (c.no ≡ 0 → Holding scope.objects known t st held)
      → Went-on scope (p q (state_of known st.unknown)) b c l t r held'

-- a known element, an element of any kind, an element with its frame, and n of them
abbrev pub KnownRead : Kind → ℕ → Scope → State → Bits → Cur → Limit → Buffers → Step State → Buffers → Type 0
KnownRead k back scope st b c l held r held' = Goes_on 1 scope st (λ q s. read_known q back s k) b c l held r held'

abbrev pub BodyRead : Kind → ℕ → Scope → State → Bits → Cur → Limit → Buffers → Step State → Buffers → Type 0
BodyRead k back scope st b c l held r held' = Goes_on 1 scope st (λ q s. oa_element q back s k) b c l held r held'

abbrev pub OneRead : Scope → State → Bits → Cur → Limit → Buffers → Step State → Buffers → Type 0
OneRead scope st b c l held r held' = Goes_on 1 scope st (λ q s. oa_element_md q scope.alternate s) b c l held r held'

abbrev pub ElementsRead : ℕ → Scope → State → Bits → Cur → Limit → Buffers → Step State → Buffers → Type 0
ElementsRead n scope st b c l held r held' = Goes_on n scope st (λ q s. elements q scope.alternate n s) b c l held r held'

-- ---- the payload

abbrev pub whole_of : List ℕ → Limit
whole_of s = record { end = record { 0 = 8 * length s }; inner = false }

abbrev pub start_cur : Cur
start_cur = record { missing = 0; v = 0; at = record { 0 = 0 }; no = 0 }

pub record HeaderRead (b : Bits) (c : Cur) (l : Limit) (r : Step Header) : Type 0 where
  pub reads : Reads header b c l (record { programme = r.value.programme; alternate = r.value.alternate }) r.cur
  pub few : r.value.programme.objects ≤ most_objects
  pub bit : r.value.alternate < 2

-- a payload that is not too long, of which the header has been read
pub record Headed (s : List ℕ) (h : Step Header) : Type 0 where
  pub short : length s ≤ most_bytes
  pub head : HeaderRead (bit s) start_cur (whole_of s) h

-- what the elements behind it are read by
abbrev pub scope_of : Header → Scope
scope_of h = record { objects = h.programme.objects; shares = shares h.programme; alternate = h.alternate }

-- what is asked of it and of the buffers
pub record Opening (s : List ℕ) (h : Step Header) (held : Buffers) : Type 0 where
  pub headed : Headed s h
  pub sized : Sized h.value.programme.objects held
  pub empty : held.table ≡ no_trim_bytes

pub record PayloadRead (s out : List ℕ) (r : Step Parsed) (held' : Buffers) : Type 0 where
  pub short : length s ≤ most_bytes
  pub known : Known
  pub reads : Reads object_audio_metadata_payload (bit s) start_cur (whole_of s)
      (record { programme = r.value.programme; known = known; unknown = r.value.state.unknown }) r.cur
  pub clean : r.cur.no ≡ 0 → r.cur.missing ≡ 0
  pub holding : r.cur.no ≡ 0 → Holding r.value.programme.objects known out r.value.state held'
  pub sized : Sized r.value.programme.objects held'
  pub few : r.value.programme.objects ≤ most_objects
  pub little : r.value.state.timing.blocks ≤ most_blocks

-- ---- the answers

-- refused for want of room: both lent buffers are as they came
pub record NoRoom (needed : ℕ) (r : ReadAnswer) (records records' trim trim' : List ℕ) : Type 0 where
  pub answer : r ≡ refused_with (number_of Room) needed 0
  pub same-records : records' ≡ records
  pub same-trim : trim' ≡ trim
