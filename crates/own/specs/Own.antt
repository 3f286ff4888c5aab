-- One object's edits stay its own: what two payloads may differ in, and which bytes of both reads are then the same.
use Rattle.std.specs.Prelude.{◌≡◌, ◌⊎◌, List, [], ◌∷◌, map, false, ℕ, suc, ◌+◌, ◌*◌, ◌<◌, eqb, get_or, take, drop, set}
use Rattle.std.proofs.Math.Option.{Option, none, some}
use Rattle.bits.specs.Language.{ok}
use Rattle.oamd.specs.declared.Block.{Block}
use Rattle.oamd.specs.declared.Kind.{Kind}
use Rattle.oamd.specs.Tables.{record_stride, trim_fixed}
use Rattle.oamd.specs.Trim.{TrimTable}
use Rattle.oamd.specs.Payload.{Payload}
use Rattle.oamd.specs.Answer.{Outcome, reading}
use Rattle.demands.specs.Terms.{parsed, tables_of}
use Rattle.demands.specs.Skeleton.{Body, Outline, outline, known}
use Rattle.sources.specs.declared.Source.TheVariants.{ByBlock, ByObject}
use Rattle.sources.specs.Sources.{gain_from}
use Rattle.sources.specs.Chain.{objects_in, blocks_in, block_at, source_at, Step, steps_from}
use Rattle.sources.specs.Given.{gain_byte, divergence_at, precise_at}

-- ---- what may differ

-- the payload q has block b of object i
pub record Within (q : Payload) (i b : ℕ) : Type 0 where
  pub object : i < objects_in q
  pub block : b < blocks_in q

-- The fields of two trim elements are the same but for b_disable_trim of object j. Each has bytes of its own in the trim table, so none can be left out; b_disable_trim_per_obj, too, which is
-- none of that object's.
pub record TrimDiffer (j : ℕ) (t t' : TrimTable) : Type 0 where
  pub warp : t.warp ≡ t'.warp
  pub mode : t.mode ≡ t'.mode
  pub configs : t.configs ≡ t'.configs
  pub per-object : t.per-object ≡ t'.per-object
  pub disabled : (i : ℕ) → (i ≡ j → ⊥) → get_or t.disabled i 0 ≡ get_or t'.disabled i 0

-- The coded fields of two payloads are the same but for object j's: the blocks of every other object, and its entries of the extended element. b_obj_div_block and b_ext_prec_pos_block, which
-- stand before the entries of all objects, may differ, and so may additional data and reserved bits: no byte goes by them.
pub record Differ (j : ℕ) (q q' : Payload) : Type 0 where
  pub blocks : (i b : ℕ) → Within q i b → (i ≡ j → ⊥) → block_at q i b ≡ block_at q' i b
  pub divergence : (i b : ℕ) → Within q i b → (i ≡ j → ⊥) → divergence_at q i b ≡ divergence_at q' i b
  pub precise : (i b : ℕ) → Within q i b → (i ≡ j → ⊥) → precise_at q i b ≡ precise_at q' i b
  pub trim : TrimDiffer j (tables_of q).trim (tables_of q').trim

-- Two payloads s and s', read as q and q', are edits of one another in object j alone. Both are accepted, with one frame number and the same lent buffers. They have the same programme, which
-- says how many objects there are, and the same timing, which says how many records each has, and their times: that of the table, the number of blocks, starts and ramps, however they are
-- coded. Both or neither have a trim element, which is byte 0 of the trim table. In which order their elements stand does not matter, and unknown ones do not.
pub record Edit (frame : ℕ) (s s' buffer trim : List ℕ) (q q' : Payload) (j : ℕ) : Type 0 where
  pub to : ℕ
  pub to' : ℕ
  pub read : parsed s ≡ ok q to
  pub read' : parsed s' ≡ ok q' to'
  pub accepted : (reading frame s buffer trim).answer.refusal ≡ 0
  pub accepted' : (reading frame s' buffer trim).answer.refusal ≡ 0
  pub programme : q.programme ≡ q'.programme
  pub timed : (tables_of q).timing ≡ (tables_of q').timing
  pub present : (tables_of q).trim.present ≡ (tables_of q').trim.present
  pub differ : Differ j q q'

-- ---- the exception

-- The gain of block b of object i comes from object j: it is one of object j's, or by index 3 that of the object before, or by reuse that of the block before, and that one comes from
-- object j. block says which is block b of object i.
pub data LeadsTo (block : ℕ → ℕ → Block) (j : ℕ) : ℕ → ℕ → Type 0 where
  here : (b : ℕ) → LeadsTo block j j b
  from-object : (i b : ℕ) → gain_from false (block (suc i) b) ≡ ByObject → LeadsTo block j i b → LeadsTo block j (suc i) b
  from_block : (i b : ℕ) → gain_from (eqb i 0) (block i (suc b)) ≡ ByBlock → LeadsTo block j i b → LeadsTo block j i (suc b)

-- ---- what stays

-- byte k of the record of block b of object i, in a buffer whose objects have n blocks each
abbrev pub byte_of : ℕ → ℕ → ℕ → ℕ → List ℕ → ℕ
byte_of n i b k buffer = get_or buffer (record_stride * (i * n + b) + k) 0

-- that byte is the same after both reads
abbrev pub Same : Payload → Outcome → Outcome → ℕ → ℕ → ℕ → Type 0
Same q o o' i b k = byte_of (blocks_in q) i b k o.buffer ≡ byte_of (blocks_in q) i b k o'.buffer

-- The records of the objects before object j are the same, all 32 bytes of each; so are those of the objects behind it, but for byte 2, the gain; and that one, too, unless it comes from
-- object j. The trim buffers are the same but for the flag of object j. Of the records of object j nothing is said.
pub record Stays (j : ℕ) (q : Payload) (o o' : Outcome) : Type 0 where
  pub before : (i b k : ℕ) → Within q i b → k < record_stride → i < j → Same q o o' i b k
  pub behind : (i b k : ℕ) → Within q i b → k < record_stride → j < i → (k ≡ gain_byte → ⊥) → Same q o o' i b k
  pub gain : (i b : ℕ) → Within q i b → j < i → (LeadsTo (block_at q) j i b → ⊥) → Same q o o' i b gain_byte
  pub trim : (x : ℕ) → (x ≡ trim_fixed + j → ⊥) → get_or o.trim x 0 ≡ get_or o'.trim x 0

-- The statement.
abbrev pub Own : Type 0
Own = (frame : ℕ) (s s' buffer trim : List ℕ) (q q' : Payload) (j : ℕ) → Edit frame s s' buffer trim q q' j
    → Stays j q (reading frame s buffer trim) (reading frame s' buffer trim)

-- ---- the same in the words of the request

-- some step of a chain is one of object j's
abbrev pub Passes : ℕ → List Step → Type 0
Passes j [] = ⊥
Passes j (st ∷ steps) = (st.object ≡ j) ⊎ Passes j steps

-- the chain of a gain leads back to object j
abbrev pub LeadsBack : List ℕ → Payload → ℕ → ℕ → ℕ → Type 0
LeadsBack s q j i b = Passes j (steps_from (source_at s q gain_byte) i b)

abbrev pub kinds_of : Option Outline → List Kind
kinds_of none = []
kinds_of (some x) = map (λ (y : Body). y.kind) (known x.elements)

-- the order of the known elements of a payload
abbrev pub order_of : List ℕ → List Kind
order_of s = kinds_of (outline s)

-- the record of block b of object i, all 32 bytes of it
abbrev pub record_in : ℕ → ℕ → ℕ → List ℕ → List ℕ
record_in n i b buffer = take record_stride (drop (record_stride * (i * n + b)) buffer)

-- bytes but for byte n
abbrev pub but : ℕ → List ℕ → List ℕ
but n l = set l n 0

-- Records of objects before object j are equal; those after it are equal except for a gain, and equal unless its chain leads back to object j. Trim tables, and what stands behind them, differ
-- in the flag of object j at most.
pub record Kept (j : ℕ) (s : List ℕ) (q : Payload) (o o' : Outcome) : Type 0 where
  pub before : (i b : ℕ) → Within q i b → i < j → record_in (blocks_in q) i b o.buffer ≡ record_in (blocks_in q) i b o'.buffer
  pub but-gain : (i b : ℕ) → Within q i b → j < i → but gain_byte (record_in (blocks_in q) i b o.buffer) ≡ but gain_byte (record_in (blocks_in q) i b o'.buffer)
  pub after : (i b : ℕ) → Within q i b → j < i → (LeadsBack s q j i b → ⊥) → record_in (blocks_in q) i b o.buffer ≡ record_in (blocks_in q) i b o'.buffer
  pub but-flag : but (trim_fixed + j) o.trim ≡ but (trim_fixed + j) o'.trim
