-- What one pass over the records finds.
use Rattle.std.specs.Prelude.{◌≡◌, List, ℕ, ◌+◌, ◌*◌, ◌%◌, ◌<◌, ◌≤◌, min, eqb}
use Rattle.bits.specs.Writes.{each_bits}
use Rattle.oamd.specs.declared.Shares.{Shares}
use Rattle.oamd.specs.declared.Timing.{Timing}
use Rattle.oamd.specs.Record.{Record}
use Rattle.oamd.specs.Time.{time_of}
use Rattle.form.specs.Valid.{first_bad, first_mistimed}
use Rattle.form.specs.Form.{block_bits, form}
use Rattle.form.specs.Answer.{tables_of, fitted, writing}
use Rattle.record.specs.Bytes.{records_at, times_at}
use Rattle.writer.specs.declared.Found.{Found}
use Rattle.oamd.specs.declared.Programme.{Programme}
use Rattle.form.specs.Valid.{record_count}
use Rattle.writer.specs.Most.{most_block, most_object}
use Rattle.writer.specs.Parts.{Wide, Needed, Enough, objects_bits}

-- the blocks of records that stand object by object, so many blocks each, where the indices count from i
abbrev pub blocks_bits : ℕ → ℕ → List Record → List ℕ
blocks_bits blocks i rs = each_bits (λ k r. block_bits (eqb (k % blocks) 0) r.scene) i rs

-- the first of n records that is bad or has another time; n where there is none
abbrev pub first_wrong : Shares → ℕ → Timing → List ℕ → ℕ → ℕ
first_wrong shares frame t s n = min (first_bad shares t.blocks 0 (records_at s n 0)) (first_mistimed (time_of frame t) 0 (times_at s n 0))

-- there is none; and of all of them which groups they need, and their bits
pub record Surveyed (shares : Shares) (frame : ℕ) (t : Timing) (s : List ℕ) (n : ℕ) (r : Found) : Type 0 where
  pub right : n ≤ first_wrong shares frame t s n
  pub needed : Needed (records_at s n 0) r.groups
  pub wide : Wide (most_block * n) r.width.0 (blocks_bits t.blocks 0 (records_at s n 0))

-- the place of the first: 1 plus its index
pub record Refused (shares : Shares) (frame : ℕ) (t : Timing) (s : List ℕ) (n place : ℕ) : Type 0 where
  pub wrong : first_wrong shares frame t s n < n
  pub is : place ≡ 1 + first_wrong shares frame t s n

-- of valid records, as the form takes them
pub record Gathered (p : Programme) (t : Timing) (s : List ℕ) (r : Found) : Type 0 where
  pub needed : Needed (records_at s (record_count p t) 0) r.groups
  pub wide : Wide (most_object * p.objects) r.width.0 (objects_bits s p.objects t.blocks)

-- valid tables, with what is found out of them; so that the room alone decides the answer
pub record Judged (frame : ℕ) (p : Programme) (t : Timing) (s x : List ℕ) (r : Found) : Type 0 where
  pub enough : Enough p t s x
  pub gathered : Gathered p t s r
  pub answer : (out : List ℕ) → fitted out (form (tables_of p t s x)) ≡ writing frame p t s x out
