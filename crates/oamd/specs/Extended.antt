-- 5.5.13 extended_object_element, 5.5.14 obj_div_block, 5.5.15 ext_prec_pos_block.
use Rattle.std.specs.Prelude.{Bool, List, ℕ, ◌+◌, eqb, length, replicate}
use Rattle.bits.specs.Language.{both, P, give, ◌>>=◌, bits, when, bits_if, each, flag}
use Rattle.oamd.specs.declared.Divergence.{Divergence}
use Rattle.oamd.specs.declared.Precise.{Precise}
use Rattle.oamd.specs.Programme.{set?}
use Rattle.oamd.specs.Reserved.{ObjectDivMode, ObjectDivCode, unreserved_if}

-- what a block carries only if its object is dynamic and active in it
unfoldable pub obj_div_block : Bool → P Divergence
obj_div_block carries = do
  b_object_divergence ← bits_if carries 1
  object_div_mode ← unreserved_if (set? b_object_divergence) ObjectDivMode
  object_div_table ← bits_if (both (set? b_object_divergence) (eqb object_div_mode 0)) 2
  object_div_code ← unreserved_if (eqb object_div_mode 2) ObjectDivCode
  give {A = Divergence} (record { used = b_object_divergence; mode = object_div_mode; value = object_div_table + object_div_code })

-- Table 43: which codes are sent, by index of ext_prec_pos_presence[]
abbrev pub has_x : ℕ → Bool
has_x presence = set? (flag 3 2 presence)

abbrev pub has_y : ℕ → Bool
has_y presence = set? (flag 3 1 presence)

abbrev pub has_z : ℕ → Bool
has_z presence = set? (flag 3 0 presence)

unfoldable pub ext_prec_pos_block : Bool → P Precise
ext_prec_pos_block carries = do
  b_ext_prec_pos ← bits_if carries 1
  ext_prec_pos_presence ← bits_if (set? b_ext_prec_pos) 3
  ext_prec_pos3D_X ← bits_if (has_x ext_prec_pos_presence) 2
  ext_prec_pos3D_Y ← bits_if (has_y ext_prec_pos_presence) 2
  ext_prec_pos3D_Z ← bits_if (has_z ext_prec_pos_presence) 2
  give {A = Precise} (record { presence = ext_prec_pos_presence; x = ext_prec_pos3D_X; y = ext_prec_pos3D_Y; z = ext_prec_pos3D_Z })

abbrev pub no_divergence : Divergence
no_divergence = record { used = 0; mode = 0; value = 0 }

abbrev pub no_precise : Precise
no_precise = record { presence = 0; x = 0; y = 0; z = 0 }

pub record Extension : Type 0 where
  pub divergence : List Divergence
  pub precise : List Precise

-- The flags say of each object, and of each block of it, in the order of both loops, whether it carries anything
unfoldable pub extended_object_element : List Bool → P Extension
extended_object_element carries = do
  b_obj_div_block ← bits 1
  divergence ← when (set? b_obj_div_block) (each obj_div_block carries) (replicate (length carries) no_divergence)
  b_ext_prec_pos_block ← bits 1
  precise ← when (set? b_ext_prec_pos_block) (each ext_prec_pos_block carries) (replicate (length carries) no_precise)
  give {A = Extension} (record { divergence = divergence; precise = precise })
