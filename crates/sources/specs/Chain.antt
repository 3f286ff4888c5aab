-- The source of each byte of a payload's records, and the chain of sources back from one of them.
use Rattle.std.specs.Prelude.{Bool, List, [], ◌∷◌, ◌++◌, ℕ, zero, suc, ◌+◌, ◌-◌, ◌*◌, eqb, get_or}
use Rattle.std.proofs.Math.Option.{Option, none, some}
use Rattle.bits.specs.Language.{both, bit}
use Rattle.oamd.specs.declared.Status.TheVariants.{Default}
use Rattle.oamd.specs.declared.Block.{Block}
use Rattle.oamd.specs.Programme.{set?}
use Rattle.oamd.specs.Block.{nowhere}
use Rattle.oamd.specs.ObjectElement.{ObjectElement}
use Rattle.oamd.specs.Extended.{no_divergence, no_precise}
use Rattle.oamd.specs.Meaning.{idle}
use Rattle.oamd.specs.Record.{Record, record_of, carries}
use Rattle.oamd.specs.Element.{there}
use Rattle.oamd.specs.Payload.{Payload}
use Rattle.demands.specs.Terms.{tables_of}
use Rattle.sources.specs.declared.Source.{Source}
use Rattle.sources.specs.declared.Source.TheVariants.{ByField, ByProgramme, ByBasicDefault, ByRenderDefault, ByNothing, ByBlock, ByMove, ByObject}
use Rattle.sources.specs.Sources.{prec_block, scene_sources, divergence_sources, precise_sources}
use Rattle.sources.specs.Where.{bit_of, path_of, extended_path, divergence_present, precise_present, precise_flag}

-- ---- a payload as read: q

abbrev pub objects_in : Payload → ℕ
objects_in q = q.programme.objects

-- how many blocks each object has; none without an object element
abbrev pub blocks_in : Payload → ℕ
blocks_in q = (tables_of q).timing.blocks

-- stands for a block that is not there
abbrev pub no_block : Block
no_block = record {
  class = 0;
  active = 0;
  basic = record { status = Default; parts = 0; gain = record { index = 0; bits = 0 }; priority = record { bydefault = 0; bits = 0 } };
  render = record {
    status = Default;
    parts = 0;
    position = nowhere;
    distance = record { given = 0; infinite = 0; index = 0 };
    zone = record { index = 0; elevation = 0 };
    extent = record { index = 0; all = 0; width = 0; depth = 0; height = 0 };
    screen = record { used = 0; factor = 0; depth = 0 };
    snap = 0;
  };
}

-- the blocks of each object, as coded
abbrev pub coded_in : Option ObjectElement → List (List Block)
coded_in none = []
coded_in (some e) = e.objects

-- block b of object j, as coded
unfoldable pub block_at : Payload → ℕ → ℕ → Block
block_at q j b = get_or (get_or (coded_in q.known.object) j []) b no_block

abbrev pub no_record : Record
no_record = record_of (idle 0) no_divergence no_precise

-- its record
unfoldable pub record_at : Payload → ℕ → ℕ → Record
record_at q j b = get_or (tables_of q).records (j * blocks_in q + b) no_record

-- ---- what the extended element sent for it. Three flags of that element are not among the values that were read, so they are the bits on their lines

abbrev pub may_carry : Payload → ℕ → ℕ → Bool
may_carry q j b = both (there q.known.extended) (carries (record_at q j b).scene)

-- b_object_divergence
unfoldable pub divergence_sent : List ℕ → Payload → ℕ → ℕ → Bool
divergence_sent s q j b = both (may_carry q j b) (set? (bit s (bit_of s (extended_path s ++ divergence_present))))

-- ext_prec_pos_presence[]
unfoldable pub presence_sent : List ℕ → Payload → ℕ → ℕ → Bool
presence_sent s q j b =
    both (both (may_carry q j b) (set? (bit s (bit_of s (extended_path s ++ precise_present)))))
    (set? (bit s (bit_of s (path_of s (blocks_in q) j b prec_block precise_flag))))

-- ---- the sources

-- of the 24 bytes of a record, in the order of record_bytes_of
unfoldable pub sources_at : List ℕ → Payload → ℕ → ℕ → List Source
sources_at s q j b =
    scene_sources (eqb j 0) (block_at q j b)
    ++ (divergence_sources (divergence_sent s q j b) (record_at q j b).divergence
    ++ precise_sources (presence_sent s q j b) (record_at q j b).precise)

-- of one of these bytes
unfoldable pub source_at : List ℕ → Payload → ℕ → ℕ → ℕ → Source
source_at s q byte j b = get_or (sources_at s q j b) byte ByNothing

-- ---- chains

pub record Step : Type 0 where
  pub object : ℕ
  pub block : ℕ
  pub source : Source

-- what follows a source: what the block before has behind it, or the object before, or nothing more
abbrev pub behind : Source → List Step → List Step → List Step
behind (ByField f) block object = []
behind ByProgramme block object = []
behind ByBasicDefault block object = []
behind ByRenderDefault block object = []
behind ByNothing block object = []
behind ByBlock block object = block
behind (ByMove f d) block object = block
behind ByObject block object = object

-- the steps from block b of object j back, at most as many as fuel says; source says where the byte comes from in each block
unfoldable pub chain : (ℕ → ℕ → Source) → ℕ → ℕ → ℕ → List Step
chain source zero j b = []
chain source (suc fuel) j b =
    record { object = j; block = b; source = source j b } ∷ behind (source j b) (chain source fuel j (b - 1)) (chain source fuel (j - 1) b)

-- each step goes back by a block or by an object, so j + b + 1 are enough
abbrev pub steps_from : (ℕ → ℕ → Source) → ℕ → ℕ → List Step
steps_from source j b = chain source (j + b + 1) j b
