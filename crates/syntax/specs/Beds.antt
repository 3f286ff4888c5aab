-- What reading the beds promises: a list of beds was read, and the array holds it, filled up.
use Rattle.std.specs.Prelude.{◌≡◌, ℕ}
use Rattle.bits.specs.declared.Cur.{Cur}
use Rattle.bits.specs.declared.Limit.{Limit}
use Rattle.bits.specs.declared.Step.{Step}
use Rattle.bits.specs.Language.{Bits}
use Rattle.bits.specs.View.{Reads}
use Rattle.oamd.specs.Tables.{most_beds}
use Rattle.oamd.specs.Programme as programme
use Rattle.oamd.specs.Programme.{bed_instances, instance_count, filled, no_bed}
use Rattle.syntax.specs.declared.Beds.{Beds}

pub record BedsRead (content : ℕ) (b : Bits) (c : Cur) (l : Limit) (r : Step Beds) : Type 0 where
  pub value : programme.Beds
  pub reads : Reads (bed_instances content) b c l value r.cur
  pub distributes : r.value.distribute ≡ value.distribute
  pub multiplies : r.value.multiple ≡ value.multiple
  pub numbers : r.value.instances ≡ value.instances
  pub counts : r.value.count ≡ instance_count content value.multiple value.instances
  pub holds : r.value.beds ≡ filled most_beds no_bed value.beds
