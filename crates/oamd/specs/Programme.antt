-- 5.5.3 program_assignment, and which object is of which class (5.6.0, 5.6.1.1, 5.6.4.8).
use Rattle.std.specs.Prelude.{Bool, List, [], ◌∷◌, ◌++◌, ℕ, suc, ◌+◌, ◌-◌, ◌*◌, leb, ltb, eqb, length, get_or, replicate}
use Rattle.bits.specs.Language.{pick, both, P, give, ◌>>=◌, bits, when, bits_if, skip, for, flag}
use Rattle.oamd.specs.declared.Bed.{Bed}
use Rattle.oamd.specs.declared.Programme.{Programme}
use Rattle.oamd.specs.declared.Shares.{Shares}
use Rattle.oamd.specs.Tables.{most_beds, isf_objects, bed_labels, nonstd_labels}
use Rattle.oamd.specs.Reserved.{IntermediateSpatialFormatIdx, unreserved_if}

-- a flag that is set
abbrev pub set? : ℕ → Bool
set? f = eqb f 1

-- a flag that is clear
abbrev pub clear? : ℕ → Bool
clear? f = eqb f 0

-- Table 11a: which objects there are, by index of content_description[]
abbrev pub has_beds : ℕ → Bool
has_beds content = set? (flag 4 3 content)

abbrev pub has_isf : ℕ → Bool
has_isf content = set? (flag 4 2 content)

abbrev pub has_dynamic : ℕ → Bool
has_dynamic content = set? (flag 4 1 content)

abbrev pub has_reserved : ℕ → Bool
has_reserved content = set? (flag 4 0 content)

-- num_bed_instances
abbrev pub instance_count : ℕ → ℕ → ℕ → ℕ
instance_count content multiple num_bed_instances_bits = pick (has_beds content) (pick (set? multiple) (num_bed_instances_bits + 2) 1) 0

abbrev pub bed_of : ℕ → ℕ → ℕ → Bed
bed_of lfe standard assignment = record { assignment = assignment; lfeonly = lfe; standard = standard }

unfoldable pub bed_assignment : P Bed
bed_assignment = do
  b_lfe_only ← bits 1
  b_standard_chan_assign ← bits_if (clear? b_lfe_only) 1
  bed_channel_assignment ← bits_if (set? b_standard_chan_assign) 10
  nonstd_bed_channel_assignment ← bits_if (both (clear? b_lfe_only) (clear? b_standard_chan_assign)) 17
  give (bed_of b_lfe_only b_standard_chan_assign (bed_channel_assignment + nonstd_bed_channel_assignment))

-- a list, filled up to n entries
abbrev pub filled : {A : Type 0} → ℕ → A → List A → List A
filled n none xs = xs ++ replicate (n - length xs) none

-- the bed of an entry that is not used
abbrev pub no_bed : Bed
no_bed = bed_of 0 0 0

-- the beds of a program that has any
pub record Beds : Type 0 where
  pub distribute : ℕ
  pub multiple : ℕ
  pub instances : ℕ
  pub beds : List Bed

unfoldable pub bed_instances : ℕ → P Beds
bed_instances content_description = do
  b_bed_chan_distribute ← bits_if (has_beds content_description) 1
  b_multiple_bed_instances_present ← bits_if (has_beds content_description) 1
  num_bed_instances_bits ← bits_if (set? b_multiple_bed_instances_present) 3
  beds ← for (instance_count content_description b_multiple_bed_instances_present num_bed_instances_bits) (λ i. bed_assignment)
  give {A = Beds} (record {
    distribute = b_bed_chan_distribute;
    multiple = b_multiple_bed_instances_present;
    instances = num_bed_instances_bits;
    beds = beds;
  })

unfoldable pub intermediate_spatial_format : ℕ → P ℕ
intermediate_spatial_format content_description = unreserved_if (has_isf content_description) IntermediateSpatialFormatIdx

unfoldable pub num_dynamic_objects : ℕ → P ℕ
num_dynamic_objects content_description = do
  num_dynamic_objects_bits ← bits_if (has_dynamic content_description) 5
  num_dynamic_objects_bits_ext ← bits_if (eqb num_dynamic_objects_bits 31) 7
  give (num_dynamic_objects_bits + num_dynamic_objects_bits_ext)

-- passed over
unfoldable pub reserved_data : ℕ → P ℕ
reserved_data content_description = do
  reserved_data_size_bits ← bits_if (has_reserved content_description) 4
  when (has_reserved content_description) (skip (8 * (reserved_data_size_bits + 1))) 0

-- the programme of what was read
abbrev pub programme_of : ℕ → ℕ → ℕ → ℕ → Beds → ℕ → ℕ → Programme
programme_of object_count dynonly lfe content bs isf dynamics = record {
  objects = object_count;
  dynonly = dynonly;
  lfe = lfe;
  content = content;
  distribute = bs.distribute;
  multiple = bs.multiple;
  instances = bs.instances;
  bedcount = instance_count content bs.multiple bs.instances;
  isf = isf;
  dynamics = dynamics;
  beds = filled most_beds no_bed bs.beds;
}

-- ISF, dynamic and reserved content stand inside the branch of programs that are not of dynamic objects only: elsewhere content_description is 0
unfoldable pub program_assignment : ℕ → P Programme
program_assignment object_count = do
  b_dyn_object_only_program ← bits 1
  b_lfe_present ← bits_if (set? b_dyn_object_only_program) 1
  content_description ← bits_if (clear? b_dyn_object_only_program) 4
  beds ← bed_instances content_description
  isf ← intermediate_spatial_format content_description
  dynamics ← num_dynamic_objects content_description
  reserved ← reserved_data content_description
  give (programme_of object_count b_dyn_object_only_program b_lfe_present content_description beds isf dynamics)

-- ---- how many objects of each class

-- the labels of an array of n flags that was sent as v; the counts are those of the indices from k on
unfoldable pub labels : ℕ → ℕ → List ℕ → ℕ → ℕ
labels n k [] v = 0
labels n k (count ∷ counts) v = flag n k v * count + labels n (suc k) counts v

-- the objects of a bed (5.6.1.1.4 to 5.6.1.1.6)
unfoldable pub bed_objects : Bed → ℕ
bed_objects b = pick (set? b.lfeonly) 1 (pick (set? b.standard) (labels 10 0 bed_labels b.assignment) (labels 17 0 nonstd_labels b.assignment))

unfoldable pub all_beds : List Bed → ℕ
all_beds [] = 0
all_beds (b ∷ bs) = bed_objects b + all_beds bs

-- The objects that the assignment names: of beds, ISF, dynamic. In a program of dynamic objects only, the LFE object, if it is there, is the one
-- bed object, and all others are dynamic
unfoldable pub named : Programme → Shares
named p = pick (set? p.dynonly)
    (record { bed = p.lfe; isf = 0; dynamic = p.objects - p.lfe })
    (record {
      bed = all_beds p.beds;
      isf = pick (has_isf p.content) (get_or isf_objects p.isf 0) 0;
      dynamic = pick (has_dynamic p.content) (p.dynamics + 1) 0;
    })

abbrev pub total : Shares → ℕ
total s = s.bed + s.isf + s.dynamic

-- they must be the object count; with reserved content they must not exceed it (house rule)
unfoldable pub agrees : Programme → Bool
agrees p = pick (has_reserved p.content) (leb (total (named p)) p.objects) (eqb (total (named p)) p.objects)

-- what is left over counts as dynamic (house rule)
unfoldable pub shares : Programme → Shares
shares p = record { bed = (named p).bed; isf = (named p).isf; dynamic = p.objects - ((named p).bed + (named p).isf) }

-- Objects stand in the order beds, ISF, dynamic (5.6.4.8). The class of object j: 0 bed, 1 ISF, 2 dynamic
abbrev pub dynamic_class : ℕ
dynamic_class = 2

unfoldable pub class_of : Shares → ℕ → ℕ
class_of s j = pick (ltb j s.bed) 0 (pick (ltb j (s.bed + s.isf)) 1 dynamic_class)
