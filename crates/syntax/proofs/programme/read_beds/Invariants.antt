-- The loop's invariant: the array holds the beds that were read, filled up, and what is left to read gives what the whole gives.
use Rattle.std.proofs.Common.{List, ℕ, ◌≤◌}
use Rattle.bits.specs.declared.Cur.{Cur}
use Rattle.bits.specs.Language.{P, give, bit}
use Rattle.oamd.specs.declared.Bed.{Bed}
use Rattle.oamd.specs.Programme.{Beds, bed_assignment, no_bed}
use Rattle.oamd.specs.Tables.{most_beds}
use Rattle.syntax.proofs.Filled.{Filling}
use Rattle.syntax.proofs.programme.read_beds.Given as goal

-- each bed is read alike
abbrev pub bed : ℕ → P Bed
bed i = bed_assignment

-- and stored as it is
abbrev pub itself : Bed → Bed
itself b = b

-- what is made of all of them
abbrev pub made : Cur → Cur → Cur → List Bed → P Beds
made distribute multiple instances xs =
    give {A = Beds} (record { distribute = distribute.v; multiple = multiple.v; instances = instances.v; beds = xs })

abbrev pub invariant-loop-i : goal.invariant-loop-i
invariant-loop-i t =
    (t.i ≤ t.i-end) × Filling t.i-end bed (made t.distribute t.multiple t.instances) itself most_beds no_bed (bit t.s) t.instances t.l t.beds t.cur t.i
