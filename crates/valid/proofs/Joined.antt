-- The parts of a long test make the whole. Assumes nothing.
use mathlib.Core.Path.{◌≡◌, ◌∙◌}
use mathlib.Core.Bool.{Bool, not}
use mathlib.Core.List.{List}
use Prim.Native.Nat.{ℕ}
use lib.Dec.{eqb}
use lib.ListN.{length, get_or}
use borrow.Author.Rules.{rules}
use borrow.Author.Tests.{eq-eqb}
use Rattle.bits.specs.Language.{pick, both, between}
use Rattle.oamd.specs.declared.Programme.{Programme}
use Rattle.oamd.specs.Tables.{most_objects, trim_configs, trim_head, per_object_byte, trim_fixed}
use Rattle.oamd.specs.Programme.{set?, clear?, has_reserved}
use Rattle.record.specs.Bytes.{bytes_at}
use Rattle.form.specs.Valid.{◌and◌, between_if, entries_valid, config_valid, programme_valid, trim_valid}
use Rattle.form.specs.Answer.{configs_at, trim_at}
use Rattle.valid.specs.Parts.{beds_valid, behind_beds_valid, assignment_valid}
use Rattle.valid.proofs.Entries.{both-assoc}
use Rattle.valid.proofs.Sent.{configs-length, bytes-length}

-- ---- as code makes them, call by call: `search parts` goes from the test of a definition to what the calls say of its parts

-- two tests together, each by what is said of it
pub joined : (r a b s t : Bool) → r ≡ both a b → a ≡ s → b ≡ t → r ≡ both s t
joined r a b s t e f g = rw (e, f, g)

-- a value by its range, of which each part may come out of a call
pub ranged : (r on on' : Bool) (low low' high high' v v' : ℕ) → r ≡ between_if on low high v → on ≡ on' → low ≡ low' → high ≡ high' → v ≡ v'
    → r ≡ between_if on' low' high' v'
ranged r on on' low low' high high' v v' e f g h k = rw (e, f, g, h, k)

-- whether two numbers are the same, either out of a call
pub same_numbers : (m n a b : ℕ) → m ≡ a → n ≡ b → eqb m n ≡ eqb a b
same_numbers m n a b e f = rw (e, f)

-- both by way of another
pub compared : (m n x y a b : ℕ) → m ≡ x → x ≡ a → n ≡ y → y ≡ b → eqb m n ≡ eqb a b
compared m n x y a b e f g h = same_numbers m n a b (e ∙ f) (g ∙ h)

pub negated : (a b : Bool) → a ≡ b → not a ≡ not b
negated a b e = rw e

pub ruleset parts = (joined, ranged, same_numbers, compared, rules)

-- ---- of the definitions

pub programme-parts : (p : Programme)
    → programme_valid p
    ≡ (between 1 most_objects p.objects
    and between 0 1 p.dynonly
    and between_if (set? p.dynonly) 0 1 p.lfe
    and between_if (clear? p.dynonly) 0 15 p.content
    and not (has_reserved p.content)
    and assignment_valid p)
unfolding programme_valid assignment_valid beds_valid behind_beds_valid
programme-parts p = rw (both-assoc (eqb (length p.beds) _))

-- a trim table out of its bytes has nine configurations and a flag for each object
pub trim-parts : (objects : ℕ) (s : List ℕ)
    → trim_valid objects (trim_at objects s)
    ≡ (between 0 1 (get_or s 0 0)
    and between_if (set? (get_or s 0 0)) 0 1 (get_or s 1 0)
    and between_if (set? (get_or s 0 0)) 0 2 (get_or s 2 0)
    and entries_valid config_valid (pick (eqb (get_or s 2 0) 2) trim_configs 0) (configs_at s trim_configs trim_head)
    and between_if (set? (get_or s 0 0)) 0 1 (get_or s per_object_byte 0)
    and entries_valid (λ used x. between_if used 0 1 x) (pick (set? (get_or s per_object_byte 0)) objects 0) (bytes_at s objects trim_fixed))
unfolding trim_valid trim_at
trim-parts objects s =
    rw (
      eq-eqb (length (configs_at s trim_configs trim_head)) trim_configs (configs-length s trim_configs trim_head),
      eq-eqb (length (bytes_at s objects trim_fixed)) objects (bytes-length s objects trim_fixed),
    )
