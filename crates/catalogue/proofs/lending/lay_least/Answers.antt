use Rattle.std.proofs.Common.{ap₂, arith, List, ℕ, ◌∙◌, take}
use Rattle.text.proofs.LayLaws.{laid_is}
use Rattle.catalogue.proofs.BackLending.{least-bytes}
use Rattle.catalogue.proofs.lending.lay_least.Goals as goal

pub returns : goal.returns
returns c = laid_is (ap₂ (λ (n : ℕ) (l : List ℕ). take n l) (omega arith) c.to_le_bytes.ensures ∙ least-bytes _ _ c.requires) c.lay_bytes.ensures
