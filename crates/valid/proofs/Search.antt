-- The first record that a test refuses, as a loop finds it: what is left from here gives what the whole gives. Assumes nothing.
use mathlib.Core.Path.{◌≡◌, refl, sym, ◌∙◌}
use mathlib.Core.Bool.{Bool, true, false}
use mathlib.Core.List.{List}
use Prim.Native.Nat.{ℕ, zero, suc, ◌+◌, ◌-◌, ◌*◌, ◌/◌, ◌%◌, ◌<◌, ◌≤◌, min}
use native.Mathlib.Nat.{sub-zero, mul-add-div_right, div-eq_of_lt, mul-add-mod_self_right, mod-eq_of_lt}
use native.Mathlib.Numerals.{add-one}
use native.Mathlib.Omega.{arith}
use borrow.Author.Rules.{rules}
use borrow.Author.Tests.{ltb-true, ltb-false}
use lib.Dec.{ltb}
use lib.ListN.{get_or}
use Rattle.bits.specs.Language.{pick, both}
use Rattle.oamd.specs.declared.Shares.{Shares}
use Rattle.oamd.specs.declared.Timing.{Timing}
use Rattle.oamd.specs.Tables.{record_stride, frame_samples}
use Rattle.oamd.specs.Timing.{no_update}
use Rattle.oamd.specs.Programme.{class_of}
use Rattle.oamd.specs.Time.{block_time, time_of, time_bytes_of}
use Rattle.form.specs.Valid.{record_valid, first_bad, first_mistimed}
use Rattle.valid.specs.declared.Turn.{Turn}
use Rattle.valid.specs.Turns.{turn_behind}
use Rattle.record.specs.Bytes.{record_at, records_at, time_at, times_at, same_bytes}

-- `first i n from` is the index of the first refused record of n, where they count from i and begin at a byte: a test of each record decides it, by index and byte
pub record Search (good : ℕ → ℕ → Bool) (first : ℕ → ℕ → ℕ → ℕ) : Type 0 where
  pub end : (i from : ℕ) → first i 0 from ≡ i
  pub step : (i n from : ℕ) → first i (suc n) from ≡ pick (good i from) (first (suc i) n (from + record_stride)) i

-- before record i of n, which is a block of an object
pub record SoFar (first : ℕ → ℕ → ℕ → ℕ) (blocks n object block i : ℕ) : Type 0 where
  pub within : i ≤ n
  pub objects : object ≤ i
  pub turn : object * blocks + block ≡ i
  pub below : block ≤ blocks - 1
  pub rest : first i (n - i) (record_stride * i) ≡ first 0 n 0

-- the object and block of the record behind that of another object and block
pub record NextTurn (blocks object block object' block' : ℕ) : Type 0 where
  pub counts : object' * blocks + block' ≡ object * blocks + block + 1
  pub below : block' < blocks
  pub step : object' ≤ object + 1

pub next-turn : (blocks : ℕ) (t : Turn) {r : Turn} → t.block < blocks → r ≡ turn_behind blocks t → NextTurn blocks t.object t.block r.object r.block
next-turn blocks t {r} h g = go (ltb (t.block + 1) blocks) refl
  where
    go : (x : Bool) → ltb (t.block + 1) blocks ≡ x → NextTurn blocks t.object t.block r.object r.block
    go true e = rw (g, e) (record { counts = omega arith; below = ltb-true _ _ e; step = omega arith })
    go false e =
        let l : blocks ≤ t.block + 1 = ltb-false _ _ e in
        let m : (t.object + 1) * blocks ≡ t.object * blocks + blocks = omega arith in
        rw (g, e) (record { counts = omega arith; below = omega arith; step = omega arith })

module _ {first : ℕ → ℕ → ℕ → ℕ} {blocks n : ℕ} where
  pub none : SoFar first blocks n 0 0 0
  none = search (sub-zero, rules)

  module _ {good : ℕ → ℕ → Bool} (search_is : Search good first) {object block i : ℕ} (before : SoFar first blocks n object block i) where
    module _ (h : i < n) {valid : Bool} (e : valid ≡ good i (record_stride * i)) where
      next : first i (n - i) (record_stride * i) ≡ pick valid (first (i + 1) (n - (i + 1)) (record_stride * (i + 1))) i
      next =
          let m : n - i ≡ suc (n - (i + 1)) = omega arith in
          let from : record_stride * i + record_stride ≡ record_stride * (i + 1) = omega arith in
          rw m (search_is.step i (n - (i + 1)) (record_stride * i) ∙ rw (e, from, add-one i))

      pub more : {o b : ℕ} → valid ≡ true → NextTurn blocks object block o b → SoFar first blocks n o b (i + 1)
      more {o} {b} v t = let left : first (i + 1) (n - (i + 1)) (record_stride * (i + 1)) ≡ first 0 n 0 = sym (next ∙ rw v) ∙ before.rest in search rules

      pub stop : valid ≡ false → i ≡ first 0 n 0
      stop v = sym (next ∙ rw v) ∙ before.rest

    pub whole : n ≤ i → i ≡ first 0 n 0
    whole h = let m : n - i ≡ 0 = omega arith in sym (search_is.end i (record_stride * i)) ∙ rw m at before.rest

-- ---- by two tests at once

-- no record before i is the first
at_least : {good : ℕ → ℕ → Bool} {first : ℕ → ℕ → ℕ → ℕ} → Search good first → (n i from : ℕ) → i ≤ first i n from
at_least search_is zero i from = rw (search_is.end i from) (omega arith)
at_least {good} search_is (suc n) i from = rw (search_is.step i n from) (go (good i from) (at_least search_is n (suc i) (from + record_stride)))
  where
    go : (x : Bool) {a : ℕ} → suc i ≤ a → i ≤ pick x a i
    go true l = omega arith
    go false l = omega arith

pub both-search : {good good' : ℕ → ℕ → Bool} {first first' : ℕ → ℕ → ℕ → ℕ} → Search good first → Search good' first'
    → Search (λ i from. both (good i from) (good' i from)) (λ i n from. min (first i n from) (first' i n from))
both-search {good} {good'} {first} {first'} one other = record {
  end = λ i from. rw (one.end i from, other.end i from) (let e : min i i ≡ i = omega arith in e);
  step = λ i n from. rw (one.step i n from, other.step i n from) (go (good i from) (good' i from) i (first (suc i) n (from + record_stride))
      (first' (suc i) n (from + record_stride)) (at_least one n (suc i) (from + record_stride)) (at_least other n (suc i) (from + record_stride)));
}
  where
    go : (x y : Bool) (i a b : ℕ) → suc i ≤ a → suc i ≤ b → min (pick x a i) (pick y b i) ≡ pick (both x y) (min a b) i
    go true true i a b h l = refl
    go true false i a b h l = omega arith
    go false true i a b h l = omega arith
    go false false i a b h l = omega arith

-- ---- by class and bytes

abbrev pub bad_from : Shares → ℕ → List ℕ → ℕ → ℕ → ℕ → ℕ
bad_from s blocks bytes i n from = first_bad s blocks i (records_at bytes n from)

pub bad-search : (s : Shares) (blocks : ℕ) (bytes : List ℕ) → Search (λ i from. record_valid (class_of s (i / blocks)) (record_at bytes from)) (bad_from s blocks bytes)
unfolding first_bad records_at
bad-search s blocks bytes = record { end = λ i from. refl; step = λ i n from. refl }

-- the object of record i
object_of_lem : (object block blocks i : ℕ) → object * blocks + block ≡ i → block < blocks → i / blocks ≡ object
object_of_lem object block blocks i e h =
    let p : 0 < blocks = omega arith in
    rw (← e, mul-add-div_right p object block, div-eq_of_lt h) (omega arith)

module _ (s : Shares) (blocks : ℕ) (bytes : List ℕ) {n object block i : ℕ} where
  pub its-class : {first : ℕ → ℕ → ℕ → ℕ} → SoFar first blocks n object block i → i < n → n ≤ 255 * blocks → {valid : Bool}
      → valid ≡ record_valid (class_of s object) (record_at bytes (record_stride * i)) → valid ≡ record_valid (class_of s (i / blocks)) (record_at bytes (record_stride * i))
  its-class before h few e = rw (object_of_lem object block blocks i before.turn (omega arith)) e

-- ---- by its time

abbrev pub mistimed_from : ℕ → Timing → List ℕ → ℕ → ℕ → ℕ → ℕ
mistimed_from frame t bytes i n from = first_mistimed (time_of frame t) i (times_at bytes n from)

pub mistimed-search : (frame : ℕ) (t : Timing) (bytes : List ℕ)
    → Search (λ i from. same_bytes (time_at bytes from) (time_bytes_of (time_of frame t i))) (mistimed_from frame t bytes)
unfolding first_mistimed times_at
mistimed-search frame t bytes = record { end = λ i from. refl; step = λ i n from. refl }

-- the block of record i
pub block_of : (object block blocks i : ℕ) → object * blocks + block ≡ i → block < blocks → i % blocks ≡ block
block_of object block blocks i e h = rw (← e, mul-add-mod_self_right object blocks block) (mod-eq_of_lt h)

module _ (frame : ℕ) (t : Timing) (bytes : List ℕ) {n object block i : ℕ} where
  pub its-time : {first : ℕ → ℕ → ℕ → ℕ} → SoFar first t.blocks n object block i → i < n → n ≤ 255 * t.blocks → {valid : Bool} {time : ℕ}
      → time ≡ frame * frame_samples + (get_or t.updates block no_update).start.0 → valid ≡ same_bytes (time_at bytes (record_stride * i)) (time_bytes_of time)
      → valid ≡ same_bytes (time_at bytes (record_stride * i)) (time_bytes_of (time_of frame t i))
  unfolding block_time
  its-time before h few e f = rw (block_of object block t.blocks i before.turn (omega arith), ← e) f
