-- The records' bytes, laid one after the other and one object after the other. Assumes nothing.
use mathlib.Core.Path.{◌≡◌, refl, ap, ap₂, ◌∙◌}
use mathlib.Core.List.{List, [], ◌∷◌, ◌++◌}
use Prim.Native.Nat.{ℕ, zero, suc, ◌+◌, ◌-◌, ◌*◌, ◌%◌, ◌≤◌, ◌<◌}
use native.Mathlib.Omega.{arith}
use lib.ListN.{get_or, length-append}
use Rattle.bits.specs.Writes.{to_bits, each_bits}
use Rattle.bits.specs.Lists.{length-to_bits}
use Rattle.record.specs.Entries.{entry}
use Rattle.oamd.specs.Record.{Record}
use Rattle.oamd.specs.Payload.{Tables}
use Rattle.oamd.specs.Tables.{record_stride}
use Rattle.writer.specs.Parts.{Wide, Inside}
use Rattle.form.specs.Form.{timing_bits, by_object, object_data_bits, object_element_bits}
use Rattle.record.specs.Bytes.{record_at, records_at}

-- the byte behind those of i records and one more
next_byte : (i : ℕ) → record_stride * i + record_stride ≡ record_stride * (i + 1)
next_byte i = omega arith

-- record i of n, and those behind it
module _ (f : ℕ → Record → List ℕ) (s : List ℕ) (n i : ℕ) where
  pub records_more : i < n → each_bits f i (records_at s (n - i) (record_stride * i))
      ≡ f i (record_at s (record_stride * i)) ++ each_bits f (i + 1) (records_at s (n - (i + 1)) (record_stride * (i + 1)))
  unfolding records_at each_bits
  records_more h =
      ap (λ (m : ℕ). each_bits f i (records_at s m (record_stride * i))) (let d : n - i ≡ suc (n - (i + 1)) = omega arith in d)
      ∙ ap₂ (λ (j k : ℕ). f i (record_at s (record_stride * i)) ++ each_bits f j (records_at s (n - (i + 1)) k)) (let e : suc i ≡ i + 1 = omega arith in e) (next_byte i)

  pub records_none : n ≤ i → each_bits f i (records_at s (n - i) (record_stride * i)) ≡ []
  unfolding records_at each_bits
  records_none h = ap (λ (m : ℕ). each_bits f i (records_at s m (record_stride * i))) (let d : n - i ≡ 0 = omega arith in d)

-- the record of a number
pub record-entry : (s : List ℕ) (n i : ℕ) (d : Record) → i < n → get_or (records_at s n 0) i d ≡ record_at s (record_stride * i)
unfolding records_at
record-entry s n i d h =
    entry record_stride record_at records_at (λ s at. refl) (λ s n at. refl) s n 0 i d h ∙ ap (record_at s) (let e : 0 + record_stride * i ≡ record_stride * i = omega arith in e)

-- m records, and those behind them
pub records-append : (s : List ℕ) (m r k : ℕ) → records_at s (m + r) k ≡ records_at s m k ++ records_at s r (k + record_stride * m)
unfolding records_at
records-append s zero r k = ap₂ (λ (j i : ℕ). records_at s j i) (let e : 0 + r ≡ r = omega arith in e) (let e : k ≡ k + record_stride * 0 = omega arith in e)
records-append s (suc m) r k =
    ap (λ (j : ℕ). records_at s j k) (let e : suc m + r ≡ suc (m + r) = omega arith in e)
    ∙ ap (λ (rs : List Record). record_at s k ∷ rs)
    (records-append s m r (k + record_stride)
    ∙ ap (λ (j : ℕ). records_at s m (k + record_stride) ++ records_at s r j) (let e : k + record_stride + record_stride * m ≡ k + record_stride * suc m = omega arith in e))

-- the bits inside the object element: the discard flag, the timing, a flag, and the objects
pub object-inside : {k n j timing objects two before r : ℕ} (t : Tables) → Wide k timing (timing_bits t.timing)
    → Wide n objects (each_bits (λ j rs. object_data_bits rs) 0 (by_object t.timing.blocks t.programme.objects t.records)) → two ≡ 2
    → before ≡ (two + timing) % 4294967296 → r ≡ (before + objects) % 4294967296 → k + (1 + n) ≤ j → 1 + j < 4294967296 → Inside j r (object_element_bits t)
unfolding object_element_bits
object-inside t first wide f g h i l =
    let rest : List ℕ = each_bits (λ j rs. object_data_bits rs) 0 (by_object t.timing.blocks t.programme.objects t.records) in
    let a = length-append (timing_bits t.timing) (to_bits 1 1 ++ rest) in
    let b = length-append (to_bits 1 1) rest in
    let d = length-to_bits 1 1 in
    record { same = omega (arith, first.same, first.most, wide.same, wide.most); most = omega (arith, first.most, wide.most) }
