use Rattle.oamd.specs.Programme.{all_beds}
use Rattle.meaning.proofs.Sums.{SoFar}
use Rattle.meaning.proofs.programme.all_beds.Given as goal

-- `all_beds` meets its contract: before bed i, the sum and the objects from bed i on make all objects (`Sums.antt`). Assumes nothing.
abbrev pub invariant-loop-b : goal.invariant-loop-b
invariant-loop-b t =
    SoFar (λ j bs. all_beds bs) 20 t.b-items t.sum t.b-index
