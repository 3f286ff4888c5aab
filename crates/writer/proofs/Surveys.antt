-- One pass over the records: each is tested by two tests at once, and what was seen and what is still to come answer for all. Assumes nothing.
use mathlib.Core.Path.{◌≡◌, refl, ap, ap₂, sym, subst, ◌∙◌}
use mathlib.Core.Bool.{Bool, ◌||◌}
use mathlib.Core.List.{List, [], ◌∷◌, ◌++◌, append_assoc}
use Prim.Native.Nat.{ℕ, zero, suc, ◌+◌, ◌-◌, ◌*◌, ◌%◌, ◌≤◌, min}
use native.Mathlib.Nat.{mul-add-mod_self_right, mod-eq_of_lt, mul-le-mul_left}
use native.Mathlib.Omega.{arith}
use lib.Dec.{eqb}
use lib.ListN.{length, take, drop}
use lib.Seq.{take-append_seam, drop-append_seam}
use Rattle.bits.specs.Writes.{each_bits}
use Rattle.oamd.specs.declared.Shares.{Shares}
use Rattle.oamd.specs.declared.Timing.{Timing}
use Rattle.oamd.specs.declared.Programme.{Programme}
use Rattle.oamd.specs.Tables.{record_stride, most_blocks}
use Rattle.oamd.specs.Record.{Record}
use Rattle.form.specs.Valid.{record_count}
use Rattle.form.specs.Form.{any, diverges, refines, block_bits, object_data_bits, by_object}
use Rattle.record.specs.Bytes.{records_at}
use Rattle.record.specs.Laws.{records-count}
use Rattle.valid.proofs.Search.{SoFar, bad_from, mistimed_from}
use Rattle.writer.specs.Most.{most_block}
use Rattle.writer.specs.declared.Found.{Found}
use Rattle.writer.specs.Parts.{Needed, objects_bits}
use Rattle.writer.specs.Survey.{blocks_bits, Surveyed, Gathered}
use Rattle.writer.proofs.Records.{records-append}
use Rattle.writer.proofs.Widths.{Counted, wide_is, wide-within}

abbrev pub wrong_from : Shares → ℕ → Timing → List ℕ → ℕ → ℕ → ℕ → ℕ
wrong_from shares frame t s i n from = min (bad_from shares t.blocks s i n from) (mistimed_from frame t s i n from)

-- before record i of n, which is a block of an object: some were seen that need the one group or the other, and so many bits were counted
pub record Surveying (shares : Shares) (frame : ℕ) (t : Timing) (s : List ℕ) (n object block i : ℕ) (one other : Bool) (width : ℕ) : Type 0 where
  pub search-so-far : SoFar (wrong_from shares frame t s) t.blocks n object block i
  pub one-so-far : one || any diverges (records_at s (n - i) (record_stride * i)) ≡ any diverges (records_at s n 0)
  pub other-so-far : other || any refines (records_at s (n - i) (record_stride * i)) ≡ any refines (records_at s n 0)
  pub bits-so-far : Counted (most_block * i) width (blocks_bits t.blocks 0 (records_at s n 0)) (blocks_bits t.blocks i (records_at s (n - i) (record_stride * i)))

-- ---- the same bits object by object

-- of one object: record b of it is its block b
within-object : (m j b : ℕ) (rs : List Record) → b + length rs ≤ m
    → blocks_bits m (j * m + b) rs ≡ each_bits (λ blk r. block_bits (eqb blk 0) r.scene) b rs
unfolding each_bits
within-object m j b [] h = refl
within-object m j b (r ∷ rs) h =
    let e : (j * m + b) % m ≡ b = mul-add-mod_self_right j m b ∙ mod-eq_of_lt (omega arith) in
    let f : suc (j * m + b) ≡ j * m + suc b = omega arith in
    ap (λ (k : ℕ). block_bits (eqb k 0) r.scene ++ blocks_bits m (suc (j * m + b)) rs) e
    ∙ ap (λ (k : ℕ). block_bits (eqb b 0) r.scene ++ blocks_bits m k rs) f
    ∙ ap (λ (l : List ℕ). block_bits (eqb b 0) r.scene ++ l) (within-object m j (suc b) rs (omega arith))

each_append : {Y : Type 0} (f : ℕ → Y → List ℕ) (i : ℕ) (xs ys : List Y) → each_bits f i (xs ++ ys) ≡ each_bits f i xs ++ each_bits f (i + length xs) ys
unfolding each_bits
each_append f i [] ys = ap (λ (k : ℕ). each_bits f k ys) (let e : i ≡ i + 0 = omega arith in e)
each_append f i (x ∷ xs) ys =
    ap (λ (l : List ℕ). f i x ++ l) (each_append f (suc i) xs ys)
    ∙ sym (append_assoc (f i x) (each_bits f (suc i) xs) (each_bits f (suc i + length xs) ys))
    ∙ ap (λ (k : ℕ). (f i x ++ each_bits f (suc i) xs) ++ each_bits f k ys) (let e : suc i + length xs ≡ i + suc (length xs) = omega arith in e)

-- of n objects, m blocks each, the first of which is object j
by-object : (s : List ℕ) (m n j k : ℕ)
    → blocks_bits m (j * m) (records_at s (n * m) k) ≡ each_bits (λ j rs. object_data_bits rs) j (by_object m n (records_at s (n * m) k))
unfolding each_bits by_object records_at object_data_bits
by-object s m zero j k = ap (λ (i : ℕ). blocks_bits m (j * m) (records_at s i k)) (let e : 0 * m ≡ 0 = omega arith in e)
by-object s m (suc n) j k =
    let mine : List Record = records_at s m k in
    let theirs : List Record = records_at s (n * m) (k + record_stride * m) in
    let whole : records_at s (suc n * m) k ≡ mine ++ theirs =
    ap (λ (i : ℕ). records_at s i k) (let e : suc n * m ≡ m + n * m = omega arith in e) ∙ records-append s m (n * m) k in
    let long : length mine ≡ m = records-count s m k in
    let next : j * m + m ≡ suc j * m = omega arith in
    ap (λ (rs : List Record). blocks_bits m (j * m) rs) whole
    ∙ each_append _ (j * m) mine theirs
    ∙ ap₂ (λ (l : List ℕ) (i : ℕ). l ++ blocks_bits m i theirs)
    (ap (λ (i : ℕ). blocks_bits m i mine) (let e : j * m ≡ j * m + 0 = omega arith in e) ∙ within-object m j 0 mine (omega arith)) (ap (λ (i : ℕ). j * m + i) long ∙ next)
    ∙ ap (λ (l : List ℕ). object_data_bits mine ++ l) (by-object s m n (suc j) (k + record_stride * m))
    ∙ sym (ap₂ (λ (x y : List Record). object_data_bits x ++ each_bits (λ j rs. object_data_bits rs) (suc j) (by_object m n y))
    (ap₂ take (sym long) whole ∙ take-append_seam mine theirs) (ap₂ drop (sym long) whole ∙ drop-append_seam mine theirs))

-- and of all of them
pub as-objects : (s : List ℕ) {n : ℕ} (objects blocks : ℕ) → n ≡ objects * blocks → blocks_bits blocks 0 (records_at s n 0) ≡ objects_bits s objects blocks
as-objects s objects blocks e =
    ap₂ (λ (k i : ℕ). blocks_bits blocks k (records_at s i 0)) (let z : 0 ≡ 0 * blocks = omega arith in z) e ∙ by-object s blocks objects 0 0

-- of all records: as the form takes them
module _ (shares : Shares) (frame : ℕ) (p : Programme) (t : Timing) (s : List ℕ) {n : ℕ} {r : Found} where
  pub gathered : Surveyed shares frame t s n r → n ≡ record_count p t → t.blocks ≤ most_blocks → Gathered p t s r
  gathered found e few =
      let most : p.objects * t.blocks ≤ p.objects * most_blocks = mul-le-mul_left p.objects few in
      record {
        needed = subst (λ (i : ℕ). Needed (records_at s i 0) r.groups) e found.needed;
        wide = wide_is (as-objects s p.objects t.blocks e) (wide-within (omega (arith, e, most)) found.wide);
      }
