-- 5.5.5 object_element and 5.5.8 object_data.
use Rattle.std.specs.Prelude.{List, ℕ, length}
use Rattle.bits.specs.Language.{P, give, ◌>>=◌, bits, bits_if, for}
use Rattle.oamd.specs.declared.Block.{Block}
use Rattle.oamd.specs.declared.Shares.{Shares}
use Rattle.oamd.specs.Programme.{clear?, class_of}
use Rattle.oamd.specs.Timing.{MdUpdateInfo, md_update_info}
use Rattle.oamd.specs.Block.{object_info_block}

unfoldable pub object_data : ℕ → ℕ → P (List Block)
object_data num-obj-info-blocks class = for num-obj-info-blocks (object_info_block class)

pub record ObjectElement : Type 0 where
  pub timing : MdUpdateInfo
  pub objects : List (List Block)

-- object_count objects, of which so many of each class
unfoldable pub object_element : ℕ → Shares → P ObjectElement
object_element object_count shares = do
  timing ← md_update_info
  b_reserved_data_not_present ← bits 1
  reserved ← bits_if (clear? b_reserved_data_not_present) 5
  objects ← for object_count (λ j. object_data (length timing.blocks) (class_of shares j))
  give {A = ObjectElement} (record { timing = timing; objects = objects })
