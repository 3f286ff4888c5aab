-- What is not used is all 0, and that is told by a sum. Assumes nothing.
use mathlib.Core.Path.{◌≡◌, refl, sym, ap, ◌∙◌}
use mathlib.Core.Bool.{Bool, false}
use mathlib.Core.List.{List}
use Prim.Native.Nat.{ℕ, zero, suc, ◌+◌, ◌*◌, ◌/◌, ◌%◌, ◌≤◌, ◌<◌}
use native.Mathlib.Nat.{zero-add, add-zero, add_assoc}
use native.Mathlib.Numerals.{add-one}
use native.Mathlib.Omega.{arith}
use lib.Bits.{bit_or}
use lib.Dec.{eqb}
use lib.ListN.{get_or}
use borrow.Author.Tests.{ne_eqb}
use Rattle.bits.specs.Language.{pick, both}
use Rattle.oamd.specs.declared.Bed.{Bed}
use Rattle.oamd.specs.declared.TrimConfig.{TrimConfig}
use Rattle.oamd.specs.declared.Update.{Update}
use Rattle.oamd.specs.LeastFirst.{least_at}
use Rattle.oamd.specs.Tables.{config_bytes, trim_configs, trim_head, per_object_byte, trim_fixed}
use Rattle.oamd.specs.Programme.{set?}
use Rattle.record.specs.Bytes.{bytes_at}
use Rattle.record.specs.Numbers.{Number}
use Rattle.form.specs.Valid.{between_if, entries_valid, bed_valid, update_valid, config_valid, trim_valid}
use Rattle.form.specs.Answer.{config_at, configs_at, trim_at}
use Rattle.valid.specs.Parts.{all_below, total}
use Rattle.valid.proofs.Entries.{both-assoc}
use Rattle.valid.proofs.Joined.{trim-parts}
use Rattle.valid.proofs.Limits.{by_zero, or-zero, at_zero, both_false}

-- a sum is 0 where both are
pub both_zero : (a b : ℕ) → eqb (a + b) 0 ≡ both (eqb a 0) (eqb b 0)
both_zero a b = by_zero a (λ e. rw (e, zero-add b)) (λ h e. rw (e, ne_eqb (a + b) 0 (λ z. omega arith)))

pub bed-unused : (b : Bed) → eqb (b.lfeonly + b.standard + b.assignment) 0 ≡ bed_valid false b
unfolding bed_valid between_if
bed-unused b =
    rw (both_zero (b.lfeonly + b.standard) b.assignment, both_zero b.lfeonly b.standard, both-assoc (eqb b.lfeonly 0) (eqb b.standard 0) (eqb b.assignment 0))

pub update-unused : (offset : ℕ) (u : Update) → eqb (u.start.0 + u.ramp.0) 0 ≡ update_valid offset false u
unfolding update_valid between_if
update-unused offset u = both_zero u.start.0 u.ramp.0 ∙ sym (at_zero (λ start. both (eqb (start % 32) 0) (eqb u.ramp.0 0)) u.start.0)

-- ---- the sum of bytes

total-add : (s : List ℕ) (m n at : ℕ) → total s (m + n) at ≡ total s m at + total s n (at + m)
unfolding total
total-add s zero n at = let e : at + 0 ≡ at = omega arith in let f : zero + n ≡ n = omega arith in rw (e, f) (omega arith)
total-add s (suc m) n at =
    let e : at + 1 + m ≡ at + suc m = omega arith in
    let f : suc m + n ≡ suc (m + n) = omega arith in
    rw f (omega (arith, rw e at (total-add s m n (at + 1))))

-- m bytes and the n behind them are 0
both-totals : (s : List ℕ) (m n at : ℕ) → eqb (total s (m + n) at) 0 ≡ both (eqb (total s m at) 0) (eqb (total s n (at + m)) 0)
both-totals s m n at = rw (total-add s m n at) (both_zero (total s m at) (total s n (at + m)))

-- each of n bytes is 0
pub each_zero : (s : List ℕ) (n from : ℕ) → all_below (λ i. eqb (get_or s (from + i) 0) 0) n ≡ eqb (total s n from) 0
unfolding all_below total
each_zero s zero from = refl
each_zero s (suc n) from =
    let m : suc n ≡ n + 1 = omega arith in
    let one : total s 1 (from + n) ≡ get_or s (from + n) 0 = omega arith in
    rw (each_zero s n from) (sym (ap (λ (k : ℕ). eqb (total s k from) 0) m ∙ both-totals s n 1 from ∙ rw one))

-- those of the whole words among n bytes, and those behind them
pub by-words : (s : List ℕ) (n from : ℕ) → both (eqb (total s (8 * (n / 8)) from) 0) (eqb (total s (n % 8) (from + 8 * (n / 8))) 0) ≡ eqb (total s n from) 0
by-words s n from = let e : 8 * (n / 8) + n % 8 ≡ n = omega arith in sym (both-totals s (8 * (n / 8)) (n % 8) from) ∙ ap (λ (k : ℕ). eqb (total s k from) 0) e

-- ---- eight bytes at once

-- a number is 0 where all of its bytes are
number-zero : (s : List ℕ) (n at : ℕ) → eqb (least_at n s at) 0 ≡ eqb (total s n at) 0
unfolding least_at total
number-zero s zero at = refl
number-zero s (suc n) at =
    rw (both_zero (get_or s at 0) (256 * least_at n s (suc at)), both_zero (get_or s at 0) (total s n (at + 1)), ← number-zero s n (at + 1), add-one at, scaled (least_at n s (suc at)))
  where
    scaled : (k : ℕ) → eqb (256 * k) 0 ≡ eqb k 0
    scaled k = by_zero k (λ e. rw e) (λ h e. rw (e, ne_eqb (256 * k) 0 (λ z. omega arith)))

-- the words before word i have the bits of `seen`
pub record Seen (s : List ℕ) (n from seen i : ℕ) : Type 0 where
  pub within : i ≤ n
  pub same : eqb seen 0 ≡ eqb (total s (8 * i) from) 0

module _ {s : List ℕ} {n from : ℕ} where
  pub unseen : Seen s n from 0 0
  unfolding total
  unseen = record { within = omega arith; same = refl }

  pub one_seen : {seen i word : ℕ} → Seen s n from seen i → i < n → Number 8 s (from + 8 * i) word → Seen s n from (bit_or seen word) (i + 1)
  one_seen {seen} {i} {word} h l w =
      let m : 8 * (i + 1) ≡ 8 * i + 8 = omega arith in
      record {
        within = omega arith;
        same = rw (or-zero seen word, m, both-totals s (8 * i) 8 from, h.same, w.is, number-zero s 8 (from + 8 * i));
      }

  pub all_seen : {seen i : ℕ} → Seen s n from seen i → n ≤ i → eqb seen 0 ≡ eqb (total s (8 * n) from) 0
  all_seen {seen} {i} h l = let e : i ≡ n = omega (arith, h.within) in rw (← e) h.same

-- ---- what is not sent

abbrev config_total : TrimConfig → ℕ
config_total c =
    c.bydefault + (c.disabled + (c.presence + (c.centre + (c.surround + (c.height + (c.tbsign + (c.tbamount + (c.lissign + c.lisamount))))))))

-- one that is not sent names no values, so that each of them is 0
none-sent : (c : TrimConfig) → eqb (config_total c) 0 ≡ config_valid false c
unfolding config_valid between_if
none-sent c = by_zero c.presence (λ e. simp (both_zero, e)) (λ h e. rw (e, ne_eqb (config_total c) 0 (λ z. omega arith)) (simp both_false))

config-total : (s : List ℕ) (at : ℕ) → total s config_bytes at ≡ config_total (config_at s at)
unfolding config_at total
config-total s at = simp (add_assoc, add-zero)

pub configs-unsent : (s : List ℕ) (n at : ℕ) → eqb (total s (config_bytes * n) at) 0 ≡ entries_valid config_valid 0 (configs_at s n at)
unfolding total entries_valid configs_at
configs-unsent s zero at = refl
configs-unsent s (suc n) at =
    let m : config_bytes * suc n ≡ config_bytes + config_bytes * n = omega arith in
    rw (m, both-totals s config_bytes (config_bytes * n) at, config-total s at, none-sent (config_at s at), configs-unsent s n (at + config_bytes))

-- flags that are not sent
flags-unsent : (s : List ℕ) (n at : ℕ) → eqb (total s n at) 0 ≡ entries_valid (λ used x. between_if used 0 1 x) 0 (bytes_at s n at)
unfolding total entries_valid bytes_at between_if
flags-unsent s zero at = refl
flags-unsent s (suc n) at = rw (both_zero (get_or s at 0) (total s n (at + 1)), flags-unsent s n (at + 1))

-- an absent trim table is all 0: its mode and the byte before the flags, too, so that neither configurations nor flags are sent
pub trim-absent : (objects : ℕ) (s : List ℕ) → get_or s 0 0 ≡ 0 → eqb (total s (trim_fixed + objects) 0) 0 ≡ trim_valid objects (trim_at objects s)
unfolding between_if total
trim-absent objects s e =
    rw (both-totals s trim_fixed objects 0, both-totals s per_object_byte 1 0, both-totals s trim_head (config_bytes * trim_configs) 0)
    (rw (configs-unsent s trim_configs trim_head, flags-unsent s objects trim_fixed, trim-parts objects s, e)
    (gathered (get_or s 1 0) (get_or s 2 0) (get_or s per_object_byte 0) (λ m. entries_valid config_valid (pick (eqb m 2) trim_configs 0) (configs_at s trim_configs trim_head))
    (λ p. entries_valid (λ used x. between_if used 0 1 x) (pick (set? p) objects 0) (bytes_at s objects trim_fixed))))
  where
    gathered : (w m p : ℕ) (f g : ℕ → Bool)
        → both (both (both (eqb (0 + (w + (m + 0))) 0) (f 0)) (eqb (p + 0) 0)) (g 0) ≡ both (eqb w 0) (both (eqb m 0) (both (f m) (both (eqb p 0) (g p))))
    gathered w m p f g =
        rw (at_zero (λ k. both (f k) (both (eqb p 0) (g p))) m, at_zero g p) (simp (both_zero, both-assoc))
