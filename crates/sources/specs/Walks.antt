-- What the functions promise that read a payload again from its first bit on: where they come to.
use Rattle.std.specs.Prelude.{◌≡◌, Bool, true, false, not, List, ℕ, ◌*◌, ◌≤◌, length, Option, is_some, IfSome}
use Rattle.bits.specs.declared.Cur.{Cur}
use Rattle.bits.specs.declared.Limit.{Limit}
use Rattle.bits.specs.Language.{P, Bits, bit, past_declared}
use Rattle.bits.specs.View.{Reads}
use Rattle.oamd.specs.declared.Kind.{Kind}
use Rattle.oamd.specs.declared.Kind.TheVariants.{Unknown, Object, Trim, Extended}
use Rattle.oamd.specs.Tables.{most_bytes, record_stride}
use Rattle.oamd.specs.Block.{object_info_block}
use Rattle.oamd.specs.Programme.{set?}
use Rattle.oamd.specs.Extended.{obj_div_block, ext_prec_pos_block}
use Rattle.oamd.specs.Record.{carries}
use Rattle.record.specs.Bytes.{scene_at}
use Rattle.reader.specs.Steps.{whole_of}
use Rattle.sources.specs.declared.Inside.{Inside}
use Rattle.sources.specs.declared.Placed.{Placed}
use Rattle.sources.specs.declared.Extra.{Extra}
use Rattle.sources.specs.Sources.{info_block, div_block, prec_block}
use Rattle.sources.specs.Where.{path_of}
use Rattle.sources.specs.Chain.{block_at, record_at, divergence_sent, presence_sent}
use Rattle.sources.specs.Asked.{payload_in, most_records}
use Rattle.sources.specs.Lemmas.Walking.{Here}
use Rattle.sources.specs.Lemmas.Seeking.{Seeking, seen_of, FoundOf}

-- p was read from a cursor on, whatever it gave
pub record Went {A : Type 0} (p : P A) (b : Bits) (c : Cur) (l : Limit) (d : Cur) : Type 0 where
  pub value : A
  pub reads : Reads p b c l value d

-- ---- to an element

-- whether an element of a kind is looked for, as the code tells it
abbrev pub wanted_by : Bool → Kind → Bool
wanted_by extended Unknown = false
wanted_by extended Object = not extended
wanted_by extended Trim = false
wanted_by extended Extended = extended

-- the cursor c stands before n elements
pub record Begun (extended : Bool) (s : List ℕ) (alternate n : ℕ) (c : Cur) (l : Limit) : Type 0 where
  pub short : length s ≤ most_bytes
  pub good : c.no ≡ 0
  pub whole : l ≡ whole_of s
  pub seeking : Seeking extended s alternate n 0 c.at.0

-- from a bit of an element on, up to its end
abbrev pub inside_at : ℕ → ℕ → Inside
inside_at at end = record {
  cur = record { missing = 0; v = 0; at = record { 0 = at }; no = 0 };
  held = record { end = record { 0 = end }; inner = true };
}

-- the cursor c stands before the fields of the element, held to its declared end
pub record Entered (extended : Bool) (s : List ℕ) (c : Cur) (l : Limit) : Type 0 where
  pub good : c.no ≡ 0
  pub inner : l.inner ≡ true
  pub within : c.at.0 ≤ l.end.0
  pub near : l.end.0 ≤ 8 * most_bytes
  pub found : FoundOf extended s c.at.0 l.end.0

pub record Sought (extended : Bool) (s : List ℕ) (r : Option Inside) : Type 0 where
  pub told : is_some r ≡ seen_of extended (payload_in s).known
  pub entered : IfSome r (λ i. Entered extended s i.cur i.held)

-- ---- to a block

-- a block of an object, as coded, where its path leads
pub record BlockFound (s : List ℕ) (n j b : ℕ) (r : Placed) : Type 0 where
  pub same : r.block ≡ block_at (payload_in s) j b
  pub near : r.at ≤ 8 * most_bytes
  pub class : ℕ
  pub end : ℕ
  pub here : Here s (path_of s n j b info_block) (object_info_block class b) r.block r.at end past_declared

-- ---- to what the extended element has for a record

-- record i of those in a buffer may carry it
abbrev pub carries_at : List ℕ → ℕ → Bool
carries_at records i = carries (scene_at records (record_stride * i))

-- a record's block there, where its path leads
pub record Carried {A : Type 0} (s : List ℕ) (way : List ℕ → List ℕ) (p : P A) (v : A) (at : ℕ) : Type 0 where
  pub end : ℕ
  pub here : Here s way p v at end past_declared

-- so many records stand in a buffer
pub record Room (records : List ℕ) (n : ℕ) : Type 0 where
  pub few : n ≤ most_records
  pub fits : record_stride * n ≤ length records

-- of a record whether b_object_divergence was sent, and then where obj_div_block stands; of ext_prec_pos_presence[] and ext_prec_pos_block the same
pub record DivergenceFound (s : List ℕ) (n j b : ℕ) (r : Extra) : Type 0 where
  pub sent : r.sent ≡ divergence_sent s (payload_in s) j b
  pub near : r.at ≤ 8 * most_bytes
  pub met : r.sent ≡ true → Carried s (path_of s n j b div_block) (obj_div_block true) (record_at (payload_in s) j b).divergence r.at

pub record PreciseFound (s : List ℕ) (n j b : ℕ) (r : Extra) : Type 0 where
  pub sent : r.sent ≡ presence_sent s (payload_in s) j b
  pub near : r.at ≤ 8 * most_bytes
  pub met : r.sent ≡ true → Carried s (path_of s n j b prec_block) (ext_prec_pos_block true) (record_at (payload_in s) j b).precise r.at
  pub flag : r.sent ≡ true → set? (bit s r.at) ≡ true
